-- Entries that are asked, one after the other.
use Rattle.std.specs.List.{slice_get}
use Rattle.std.specs.Prelude.{is_some}
use Rattle.std.proofs.Common.{◌≡◌, ◌⊎◌, ℕ, ◌+◌, ◌<◌, inl, inr, ⊎_elim, List, Bool, true, false, cond, Option, Some, None, refl, sym, ap, ◌∙◌, subst, arith}
use Rattle.std.proofs.lemmas.Bool.{cases_lt}
use Rattle.card_core.specs.PartFields.{PartFields}
use Rattle.card_core.specs.declared.verdict.Verdict.{Verdict}
use Rattle.log_core.specs.declared.Entry.{Entry}
use Rattle.ident_core.proofs.Elements.{some_item}
use Rattle.audit_core.specs.declared.checking.Agreement.TheVariants as agreements
use Rattle.audit_core.specs.Checking.{agreement_by, agreement_of, IsFine, AreFine, is_told}

pub below_or_at : (m i : ℕ) → m < i + 1 → (m < i) ⊎ (m ≡ i)
below_or_at m i lt = elim (cases_lt m i) [ inl below ↦ inl below | inr past ↦ inr (omega (arith, past, lt)) ]

-- one entry more
pub fine_more : (parts : List PartFields) (tells : Entry → Option Bool) (entries : List (Option Entry)) (i : ℕ) (o : Option Entry) → slice_get entries i ≡ Some o
    → IsFine (agreement_of parts tells o) → AreFine parts tells entries i → AreFine parts tells entries (i + 1)
fine_more parts tells entries i o h f a m p lt k =
    ⊎_elim (λ b. a m p b k)
    (λ e. subst (λ z. IsFine (agreement_of parts tells z)) (some_item o p (sym h ∙ ap (slice_get entries) (sym e) ∙ k)) f)
    (below_or_at m i lt)

not_skipped : (t : Bool) (v : Verdict) (b : Bool) → cond t agreements.Agrees (agreements.Disagrees v b) ≡ agreements.Skipped → ⊥
not_skipped true v b h = absurd cc
not_skipped false v b h = absurd cc

skipped_by : (parts : List PartFields) (e : Entry) (r : Option Bool) → agreement_by parts e r ≡ agreements.Skipped → is_some r ≡ false
skipped_by parts e None h = refl
skipped_by parts e (Some b) h = absurd (not_skipped _ _ _ h)

agrees_by : (parts : List PartFields) (e : Entry) (r : Option Bool) → agreement_by parts e r ≡ agreements.Agrees → is_some r ≡ true
agrees_by parts e None h = absurd cc
agrees_by parts e (Some b) h = refl

pub skipped_untold : (parts : List PartFields) (tells : Entry → Option Bool) (o : Option Entry) → agreement_of parts tells o ≡ agreements.Skipped → is_told tells o ≡ false
skipped_untold parts tells None h = refl
skipped_untold parts tells (Some e) h = skipped_by parts e (tells e) h

pub agrees_told : (parts : List PartFields) (tells : Entry → Option Bool) (o : Option Entry) → agreement_of parts tells o ≡ agreements.Agrees → is_told tells o ≡ true
agrees_told parts tells None h = absurd cc
agrees_told parts tells (Some e) h = agrees_by parts e (tells e) h
