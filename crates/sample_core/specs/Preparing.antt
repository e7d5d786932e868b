-- What is made before the file is begun.
use Rattle.std.specs.Prelude.{◌≡◌, ℕ, ◌++◌, length}
use Rattle.sample_core.specs.declared.sample.Prepared.{Prepared}
use Rattle.sample_core.specs.Sample.{sample_text}
use Rattle.sample_core.specs.Parts.{head_text}

-- all that stands before the entries, and how many bytes the job has
pub record IsPrepared (number count : ℕ) (prepared : Prepared) : Type 0 where
  pub head : prepared.front.items ++ prepared.buffer ≡ head_text number count
  pub bytes : prepared.bytes ≡ length (sample_text number count)
