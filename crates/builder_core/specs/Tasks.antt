-- The leaves that are built, in the order of their issuers and then of their shards.
use Rattle.std.specs.Prelude.{◌^◌, ◌*◌, ℕ, List, map, not}
use Rattle.std.specs.List.{flat_map, range_with_len}
use Rattle.ident_core.specs.declared.bounds.TheConstants.{MAX_ISSUERS}
use Rattle.ident_core.specs.declared.identity.Identity.{Identity}
use Rattle.equation_core.specs.declared.shards.TheConstants.{MAX_SHIFT}
use Rattle.universe_core.specs.Groups.{GroupFields, group_fields}
use Rattle.card_core.specs.Leaf.{flagged}
use Rattle.card_core.specs.Filter.{in_shard}
use Rattle.builder_core.specs.declared.format.Format.{Format}
use Rattle.builder_core.specs.declared.task.Cut.{Cut}
use Rattle.builder_core.specs.declared.task.Task.{Task}
use Rattle.builder_core.specs.Building.{shift_in}

-- a group, by how many bits it is cut, and one of its shards
pub record TaskFields : Type 0 where
  pub group : GroupFields
  pub shift : ℕ
  pub shard : ℕ

abbrev pub task_fields : Task → TaskFields
task_fields t = record { group = group_fields t.group.now; shift = t.shift; shard = t.shard }

-- the leaves of a group that is cut by so many bits, of which there is one where it isn't cut
abbrev pub tasks_by : ℕ → GroupFields → List TaskFields
tasks_by shift g = map (λ j. record { group = g; shift = shift; shard = j }) (range_with_len 0 (2 ^ shift))

abbrev pub tasks_of_cut : Cut → List TaskFields
tasks_of_cut c = tasks_by c.shift (group_fields c.group.now)

abbrev pub tasks_of : Format → GroupFields → List TaskFields
tasks_of format g = tasks_by (shift_in format g) g

abbrev pub tasks_in : Format → List GroupFields → List TaskFields
tasks_in format groups = flat_map (tasks_of format) groups

-- the revoked and the other members of the shard
abbrev pub revoked_of : TaskFields → List Identity
revoked_of t = in_shard t.shift t.shard (flagged t.group.universe t.group.revoked)

abbrev pub others_of : TaskFields → List Identity
others_of t = in_shard t.shift t.shard (flagged t.group.universe (map not t.group.revoked))

-- no group has more leaves than there are shards
abbrev pub max_tasks : ℕ
max_tasks = MAX_ISSUERS * 2 ^ MAX_SHIFT
