use Rattle.std.proofs.Common.{rules, of_calls}
use Rattle.std.proofs.lemmas.Bool.{false_from_ne_true}
use Rattle.std.proofs.lemmas.Cmp.{nat_list_cmp_total}
use Rattle.std.proofs.lemmas.Fn.{always_returns_same}
use Rattle.std.proofs.lemmas.Map.Lookups.{exact_bytes}
use Rattle.std.proofs.Common.{List, ℕ}
use Rattle.ident_core.specs.Order.{octets_cmp}
use Rattle.ident_core.specs.Sets.{has_key}
use Rattle.ident_core.proofs.Keys.{searched_ok, searched_err}
use Rattle.ident_core.proofs.Sets.{Among-from_has_key}
use Rattle.ident_core.proofs.searching.place_of_key.Goals as goal

pub returns-in-Ok-clause-some : goal.returns-in-Ok-clause-some
returns-in-Ok-clause-some c =
    searched_ok octets_cmp nat_list_cmp_total exact_bytes c.args.keys.now c.args.key.now c.in-Ok.place c.in-Ok.ensures.bound
    (c.in-Ok.ensures.position (λ (k : List ℕ). octets_cmp k c.args.key.now) (always_returns_same _ _ _ (λ a r f k. search (rules, of_calls))) c.args.key.now)

pub returns-in-Err-clause-none : goal.returns-in-Err-clause-none
returns-in-Err-clause-none c = λ e.
    false_from_ne_true (has_key c.args.keys.now c.args.key.now) (λ h.
    searched_err octets_cmp nat_list_cmp_total exact_bytes c.args.keys.now c.args.key.now c.in-Err.field-0 c.requires.sorted
    (c.in-Err.ensures.position (λ (k : List ℕ). octets_cmp k c.args.key.now) (always_returns_same _ _ _ (λ a r f k. search (rules, of_calls))))
    (Among-from_has_key c.args.keys.now c.args.key.now h))
