use Rattle.std.specs.Prelude.{◌≡◌, List, All, Option, None, Some, IfSome, map}
use Rattle.std.specs.Option.{option_map}
use Rattle.std.proofs.Common.{refl}
use Rattle.std.proofs.lemmas.List.Elements.{All-map}
use Rattle.universe_core.specs.Jobs.{Entry}
use Rattle.universe_core.specs.Formats.{undated}
use Rattle.universe_core.proofs.Beginning.{every}
use Rattle.universe_core.proofs.laws.formats_say_whether_dates_are_read.Goals as goal

without_date : (o : Option Entry) → IfSome (option_map undated o) (λ e. e.until ≡ None)
without_date None = tt
without_date (Some e) = refl

without_dates : (entries : List (Option Entry)) → All (λ o. IfSome o (λ e. e.until ≡ None)) (map (option_map undated) entries)
without_dates entries = All-map (λ o. IfSome o (λ e. e.until ≡ None)) (option_map undated) entries
    (every (λ o. IfSome (option_map undated o) (λ e. e.until ≡ None)) entries without_date)

pub returns : goal.returns
returns c = record { plain = without_dates; sharded = without_dates; dated = λ entries. refl }
