-- In which format a job is taken, and what its format decides of its part.
use Rattle.universe_core.specs.Formats.{JobFormat, plain, sharded, dated}
use Rattle.builder_core.specs.declared.format.Format.{Format}
use Rattle.builder_core.specs.declared.format.Format.TheVariants.{Plain, Sharded}

-- the format in which `run` takes jobs
abbrev pub current : JobFormat
current = dated

-- how the blocks of a part are built
abbrev pub blocks_in : JobFormat → Format
blocks_in plain = Plain
blocks_in sharded = Sharded
blocks_in dated = Sharded
