-- What contracts see of a depot and of a sink in memory, and what their calls answer.
use Rattle.std.specs.Prelude.{ℕ, ◌-◌, min, List, length, refl, Bool, ◌&&◌, cond, Option, None, is_some}
use Rattle.std.specs.Option.{option_map}
use Rattle.std.specs.Coded.{Coded, code_by, coded×, coded_ℕ, coded_list}
use Rattle.std.specs.FinMap as map
use Rattle.outside_core.specs.Files.{Files}
use Rattle.outside_core.specs.Calls.{CallsView, calls_code, is_failing}

-- the files; the calls of read_at; the calls of begin and append, numbered together
pub record DepotView : Type 0 where
  pub files : Files
  pub reads : CallsView
  pub writes : CallsView

abbrev pub depot_code : Coded DepotView
depot_code =
    code_by (Files × (CallsView × CallsView)) (coded× (map.code (coded_list coded_ℕ) (coded_list coded_ℕ)) (coded× calls_code calls_code))
    (λ v. (v.files, (v.reads, v.writes))) (λ p. record { files = p.0; reads = p.1.0; writes = p.1.1 }) (λ _. refl)

-- all that was written, and the calls of write
pub record SinkView : Type 0 where
  pub bytes : List ℕ
  pub writes : CallsView

abbrev pub sink_code : Coded SinkView
sink_code =
    code_by (List ℕ × CallsView) (coded× (coded_list coded_ℕ) calls_code) (λ v. (v.bytes, v.writes))
    (λ p. record { bytes = p.0; writes = p.1 }) (λ _. refl)

-- how many bytes the next read with this much room gives from a place on; none where it fails
abbrev pub read_count : DepotView → List ℕ → ℕ → ℕ → Option ℕ
read_count depot name at room =
    cond (is_failing depot.reads) None (option_map (λ bytes. min room (length bytes - at)) (map.get depot.files name))

-- whether the next read is one that fails at a name that is held
abbrev pub read_fails : DepotView → List ℕ → Bool
read_fails depot name = is_failing depot.reads && is_some (map.get depot.files name)
