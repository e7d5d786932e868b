use Rattle.std.proofs.Common.{◌≡◌, sym, ◌∙◌, true}
use Rattle.std.proofs.lemmas.List.Filters.{dedup_is}
use Rattle.std.proofs.lemmas.List.Kept.{IsStrictlySortedBy-dedup, Contains-dedup, Contains-from_dedup}
use Rattle.std.proofs.lemmas.List.Sorted.{Contains-permutation, IsPermutation-sym}
use Rattle.ident_core.proofs.Canonical.{equal_from_is_eq, Among-from_Contains, Contains-from_Among}
use Rattle.ident_core.proofs.sorting.sort_once.Goals as goal

pub returns : goal.returns
returns g c =
    let e = dedup_is g.T.PartialEq.eq _ _ c.dedup.ensures.filtered in
    let exact = λ (a b : g.row.T.Denot) (h : g.T.PartialEq.eq a b ≡ true). c.requires.exact a b (equal_from_is_eq _ (sym (g.met.T.Ord.matches_eq a b) ∙ h)) in
    record {
      ascends = rw e (IsStrictlySortedBy-dedup g.met.T.Ord.total g.met.T.Ord.matches_eq _ c.sort_unstable.ensures.sorted);
      holds = λ x. (
        λ a. Among-from_Contains _ x (Contains-permutation _ c.args.items.now.items x (IsPermutation-sym _ _ c.sort_unstable.ensures.permutation)
            (Contains-from_dedup g.T.PartialEq.eq c.sort_unstable.new.self.items x (rw e at (Contains-from_Among _ x a)))),
        λ a. Among-from_Contains _ x (rw e (Contains-dedup g.met.T.Eq.laws exact c.sort_unstable.new.self.items x
            (Contains-permutation c.args.items.now.items _ x c.sort_unstable.ensures.permutation (Contains-from_Among _ x a)))),
      );
    }
