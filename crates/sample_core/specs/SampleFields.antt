-- Which job is to be written.
use Rattle.std.specs.Prelude.{ℕ}

pub record SampleFields : Type 0 where
  pub number : ℕ
  pub count : ℕ
