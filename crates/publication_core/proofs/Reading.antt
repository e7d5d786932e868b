-- A job as its format reads it, and the ledger of a history whose jobs read no dates.
use Rattle.std.proofs.Common.{◌≡◌, ℕ, ⊎_elim, List, [], ◌∷◌, ◌++◌, map, get_or, Bool, true, false, Option, Some, None, refl, sym, ap, ◌∙◌, subst}
use Rattle.std.specs.Prelude.{ℤ, All, IfSome, if◌then◌else◌}
use Rattle.std.specs.Option.{option_map}
use Rattle.std.proofs.lemmas.Bool.{true≢false}
use Rattle.std.proofs.lemmas.List.Elements.{All-map, All-head, All-tail}
use Rattle.ident_core.specs.declared.identity.Identity.{Identity}
use Rattle.job_core.specs.Fitting.{EntryFieldsFit, FitsPublishing}
use Rattle.ledger_core.specs.declared.fields.LedgerItem.{LedgerItem}
use Rattle.ledger_core.specs.LedgerText.{HasNoDates}
use Rattle.ident_core.specs.Among.{Among}
use Rattle.ident_core.proofs.Elements.{Among-map, Among-cases}
use Rattle.universe_core.specs.Jobs.{Entry}
use Rattle.universe_core.specs.Formats.{JobIn, undated, reads_dates, read_in, facts_in}
use Rattle.universe_core.specs.History.{Release, past_of, released, shown, accepted_by, seen}
use Rattle.universe_core.specs.Dates.{greatest, dates, until}
use Rattle.universe_core.specs.Ledgers.{item_from, ledger_of}
use Rattle.universe_core.proofs.Greatest.{greatest_is, greatest_keeps}
use Rattle.universe_core.proofs.Members.{Among-dates}
use Rattle.history_core.proofs.Accepting.{shown_entry}
use Rattle.history_core.proofs.Releases.{seen-push}
use Rattle.publication_core.specs.Histories.{Published, GoesOn, release_of, releases_after}

-- ---- what a job keeps as its format reads it

entry_in : (o : Option Entry) → IfSome o EntryFieldsFit → IfSome (option_map undated o) EntryFieldsFit
entry_in None h = tt
entry_in (Some e) h = record { issuer = h.issuer; some_serial = h.some_serial; short_serial = h.short_serial; log = h.log; time = h.time; until = tt }

entries_by : (b : Bool) (es : List (Option Entry)) → All (λ o. IfSome o EntryFieldsFit) es → All (λ o. IfSome o EntryFieldsFit) (if b then es else map (option_map undated) es)
entries_by true es h = h
entries_by false es h = All-map (λ (o : Option Entry). IfSome o EntryFieldsFit) (option_map undated) es (λ k d lt. entry_in (get_or es k d) (h k d lt))

pub fits_in : (j : JobIn) → FitsPublishing j.job → FitsPublishing (read_in j)
fits_in j h = record {
  epoch = h.epoch;
  moment = h.moment;
  ranges_fit = h.ranges_fit;
  ranges = h.ranges;
  crls = h.crls;
  entries = entries_by (reads_dates j.format) j.job.entries h.entries;
}

pub goes_on_in : (j : JobIn) (o : Option Release) → IfSome o (GoesOn j.job) → IfSome o (GoesOn (read_in j))
goes_on_in j None h = tt
goes_on_in j (Some r) h = record { epoch = h.epoch; coverage = h.coverage }

-- ---- jobs that read no dates

no_date : (o : Option Entry) (e : Entry) → ◌≡◌ {A = Option Entry} (option_map undated o) (Some e) → e.until ≡ None
no_date None e h = absurd cc
no_date (Some d) e h = let same : undated d ≡ e = cc in ap (λ (x : Entry). x.until) (sym same)

entry_undated : (b : Bool) (es : List (Option Entry)) (e : Entry) → b ≡ false → Among (if b then es else map (option_map undated) es) (Some e) → e.until ≡ None
entry_undated true es e h a = absurd (true≢false h)
entry_undated false es e h a = let m = Among-map (option_map undated) es (Some e) a in no_date m.0 e m.2

-- no accepted entry has a date
abbrev pub NoDates : List Release → Type 0
NoDates rs = (e : Entry) → Among (seen rs) e → e.until ≡ None

pub none_dated : NoDates []
unfolding seen
none_dated = λ e a. absurd a

more_undated : (rs : List Release) (j : JobIn) (trailer : List ℕ) → reads_dates j.format ≡ false → NoDates rs → NoDates (rs ++ released (past_of rs) (facts_in j) trailer ∷ [])
more_undated rs j trailer undated_in h = λ e a.
    ⊎_elim (λ old. h e old) (λ n. entry_undated (reads_dates j.format) j.job.entries e undated_in (shown_entry (past_of rs) (facts_in j) e n))
    (Among-cases (seen rs) (shown (past_of rs) (facts_in j)) e (subst (λ (es : List Entry). Among es e) (seen-push rs (released (past_of rs) (facts_in j) trailer)) a))

pub after_undated : (rs : List Release) (ps : List Published) → All (λ p. reads_dates p.job.format ≡ false) ps → NoDates rs → NoDates (releases_after rs ps)
after_undated rs [] none h = h
after_undated rs (p ∷ ps) none h =
    after_undated (rs ++ release_of rs p ∷ []) ps (All-tail (λ (q : Published). reads_dates q.job.format ≡ false) p ps none)
    (more_undated rs p.job p.sealed.trailer (All-head (λ (q : Published). reads_dates q.job.format ≡ false) p ps none) h)

-- ---- their ledger

none_if : (o : Option ℤ) → IfSome o (λ (d : ℤ). ⊥) → o ≡ None
none_if None h = refl
none_if (Some d) h = absurd h

none_of : (o : Option ℤ) → o ≡ None → IfSome o (λ (d : ℤ). ⊥)
none_of o h = subst (λ (p : Option ℤ). IfSome p (λ (d : ℤ). ⊥)) (sym h) tt

module _ (rs : List Release) (none : NoDates rs) where
  until_none : (x : Identity) → until x rs ≡ None
  unfolding until
  until_none x =
      let ds : List (Option ℤ) = dates x (seen rs) in
      none_if (greatest ds)
      (greatest_keeps (λ (d : ℤ). ⊥) ds (greatest ds) (greatest_is ds) (λ d a.
      let m = Among-dates x (seen rs) d a in
      none_of d (sym m.3 ∙ none m.0 m.1)))

  -- the ledger has no dates
  pub items_undated : HasNoDates (ledger_of rs)
  unfolding ledger_of
  items_undated =
      All-map (λ (i : LedgerItem). i.until ≡ None) (item_from rs) (accepted_by [] rs)
      (λ k d lt. until_none (get_or (accepted_by [] rs) k d))
