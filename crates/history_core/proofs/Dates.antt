-- The date of an identity, when a job is added.
use Rattle.std.specs.List.{filter}
use Rattle.std.proofs.Common.{◌≡◌, ℕ, List, [], ◌∷◌, ◌++◌, map, Bool, true, false, cond, Option, refl, sym, ap, ◌∙◌}
use Rattle.std.specs.Prelude.{ℤ}
use Rattle.std.proofs.lemmas.Bool.{true≢false, false_from_ne_true}
use Rattle.std.proofs.lemmas.List.{map-append}
use Rattle.std.proofs.lemmas.List.Elements.{filter-append}
use Rattle.std.proofs.lemmas.Grind.{fold-append}
use Rattle.ident_core.specs.declared.identity.Identity.{Identity}
use Rattle.ident_core.specs.Order.{is_same}
use Rattle.ident_core.specs.Among.{Among}
use Rattle.ident_core.specs.Sets.{has}
use Rattle.ident_core.proofs.Elements.{Among-in_filter, Among-in_map}
use Rattle.ident_core.proofs.Runs.{filter_none}
use Rattle.ident_core.proofs.Sets.{same_is, same_refl}
use Rattle.universe_core.specs.Jobs.{Entry, JobFacts}
use Rattle.universe_core.specs.History.{Release, past_of, released, shown, accepted_by, seen}
use Rattle.universe_core.specs.Dates.{later_of, greatest, dates, until}
use Rattle.history_core.specs.Facts.{IsSound}
use Rattle.history_core.proofs.Releases.{seen-push, accepted_by-has}

-- the greatest of some dates and others is that of the greatest of the first and the others
greatest_again : (d : Option ℤ) (ds es : List (Option ℤ)) → greatest (greatest (d ∷ ds) ∷ es) ≡ greatest ((d ∷ ds) ++ es)
unfolding greatest
greatest_again d ds es = sym (fold-append later_of d ds es)

dates-append : (x : Identity) (ds es : List Entry) → dates x (ds ++ es) ≡ dates x ds ++ dates x es
unfolding dates
dates-append x ds es = rw (filter-append, map-append) refl

again : (ds es : List (Option ℤ)) (d : Option ℤ) → Among ds d → greatest (greatest ds ∷ es) ≡ greatest (ds ++ es)
again [] es d a = absurd a
again (c ∷ ds) es d a = greatest_again c ds es

module _ (rs : List Release) (sound : IsSound rs) (x : Identity) where
  some_date : has (accepted_by [] rs) x ≡ true → (d : Option ℤ) × Among (dates x (seen rs)) d
  unfolding dates
  some_date h =
      let e = sound.entered x h in (
        e.0.until,
        Among-in_map (λ (d : Entry). d.until) (filter (λ (d : Entry). is_same x d.id) (seen rs)) e.0
            (Among-in_filter (λ (d : Entry). is_same x d.id) (seen rs) e.0 e.1 (ap (is_same x) e.2 ∙ same_refl x)),
      )

  no_entry : has (accepted_by [] rs) x ≡ false → (e : Entry) → Among (seen rs) e → is_same x e.id ≡ false
  no_entry h e a = false_from_ne_true (is_same x e.id) (λ s.
      let c = sound.covered e a in
      let i : has (accepted_by [] rs) e.id ≡ true = accepted_by-has [] rs c.0 e.id sound.widens c.1 (sound.timely e a c.0 c.1 c.2 c.3) in
      true≢false (sym (ap (has (accepted_by [] rs)) (same_is x e.id s) ∙ i) ∙ h))

  no_dates : has (accepted_by [] rs) x ≡ false → dates x (seen rs) ≡ []
  unfolding dates
  no_dates h = ap (map (λ (e : Entry). e.until)) (filter_none (λ (e : Entry). is_same x e.id) (seen rs) (no_entry h))

  by_item : (now : List (Option ℤ)) (b : Bool) → has (accepted_by [] rs) x ≡ b → greatest (cond b (until x rs ∷ []) [] ++ now) ≡ greatest (dates x (seen rs) ++ now)
  unfolding until
  by_item now true h = let d = some_date h in again (dates x (seen rs)) now d.0 d.1
  by_item now false h = ap (λ ds. greatest (ds ++ now)) (sym (no_dates h))

  -- an item's date, if there is an item, and the dates now give the date with the job
  pub until_next : (job : JobFacts) (trailer : List ℕ) → greatest (cond (has (accepted_by [] rs) x) (until x rs ∷ []) [] ++ dates x (shown (past_of rs) job)) ≡ until x (rs ++ released (past_of rs) job trailer ∷ [])
  unfolding until
  until_next job trailer =
      by_item (dates x (shown (past_of rs) job)) (has (accepted_by [] rs) x) refl
      ∙ ap greatest (sym (dates-append x (seen rs) (shown (past_of rs) job)) ∙ ap (dates x) (sym (seen-push rs (released (past_of rs) job trailer))))
