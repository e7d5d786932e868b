-- What the program answers: how it ends, what it writes to its sink, and which files it writes before that.
use Rattle.std.specs.Prelude.{ℕ, List}
use Rattle.input_core.specs.declared.fault.FileFault.{FileFault}

-- a file that a command writes: its name, and the bytes that it then holds
pub record OutputFields : Type 0 where
  pub name : List ℕ
  pub bytes : List ℕ

-- the outputs in their order
pub record ReplyFields : Type 0 where
  pub status : ℕ
  pub text : List ℕ
  pub outputs : List OutputFields

-- what a command that is done writes
pub record Done : Type 0 where
  pub text : List ℕ
  pub outputs : List OutputFields

-- what is wrong with the file of this name
pub record NamedFault : Type 0 where
  pub name : List ℕ
  pub fault : FileFault
