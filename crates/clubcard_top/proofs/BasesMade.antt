-- What comes of `rebase` over the ledger of a history, and of `query` over the store of its base, from what the layers
-- promise of bases.
use Rattle.std.proofs.Common.{◌≡◌, ℕ, ◌≤◌, Bool, true, false, List, [], ◌∷◌, map, Result, Ok, Err, sym, ap, ◌∙◌, subst, arith}
use Rattle.std.specs.List.{list_any}
use Rattle.std.specs.Prelude.{if◌then◌else◌}
use Rattle.ident_core.specs.declared.identity.Identity.{Identity}
use Rattle.ident_core.specs.declared.range.Sighting.{Sighting}
use Rattle.ident_core.specs.Coverage.{covers}
use Rattle.ident_core.specs.HeadFields.{HeadFields}
use Rattle.outside_core.specs.Files.{Files}
use Rattle.part_text.specs.SealedFields.{SealedFields}
use Rattle.ledger_core.specs.LedgerFields.{LedgerFields}
use Rattle.ident_core.specs.Among.{Among}
use Rattle.ident_core.specs.Sets.{has}
use Rattle.ident_core.proofs.Elements.{Among-in_map, any_at}
use Rattle.universe_core.specs.History.{Release, seen, sightings, is_listed}
use Rattle.universe_core.specs.Ledgers.{ledger_of}
use Rattle.place_core.specs.Cuts.{Cut, is_kept}
use Rattle.history_core.specs.Bases.{kept_by, base_with, base_head, releases_cut, is_lasting_by}
use Rattle.card_core.specs.declared.verdict.Verdict.{Verdict}
use Rattle.card_core.specs.declared.verdict.Verdict.TheVariants.{NotCovered, NotEnrolled, Good, Revoked}
use Rattle.card_core.specs.Consulting.{covers_some}
use Rattle.card_core.specs.Verdict.{verdict}
use Rattle.publication_core.specs.declared.base_fault.BaseFault.{BaseFault}
use Rattle.publication_core.specs.Histories.{History, members, IsHistory, parts_of, releases_of, LeavesOut}
use Rattle.publication_core.specs.Rebasing.{BasePublicationFields, PublishesBase, base_counts}
use Rattle.word_core.specs.declared.command.Command.{Command}
use Rattle.word_core.specs.declared.command.{Query.Query, Rebase.Rebase}
use Rattle.line_core.specs.Lines.{line}
use Rattle.command_core.specs.ReplyFields.{Done, NamedFault}
use Rattle.command_core.specs.Commands.{only, verdict_word, query_done, Makes}
use Rattle.command_core.specs.Rebasings.{cut_without, base_done, rebased_as, MakesBase, MakesRebase}
use Rattle.command_core.specs.Replies.{held_by}
use Rattle.clubcard_top.specs.Headline.{AsksToRebase, BeginsAnew, IsRebasableCut, base_of, IsKept, AsksTheBase, AsksStore, AsksTruth, AsksOfLeftOut, truth_line, truth_done}
use Rattle.clubcard_top.proofs.Made.{ReadBack, ledger_input}
use Rattle.command_core.proofs.Results.{ok_same}
use Rattle.command_core.proofs.Unique.{OneBase}

-- What the layers promise of bases.
pub record BaseLayers : Type 0 where
  pub ledgers : ReadBack
  pub one : OneBase
  pub rebasable : (h : History) (moment : ℕ) (cut : Cut) (p : BasePublicationFields) → IsHistory h → 1 ≤ members h
      → PublishesBase (ledger_of (releases_of h)) moment cut (Ok p) → IsRebasableCut moment cut h
  pub begins : (h : History) (moment : ℕ) (cut : Cut) (p : BasePublicationFields) → IsHistory h → 1 ≤ members h
      → PublishesBase (ledger_of (releases_of h)) moment cut (Ok p) → IsHistory (base_of h moment cut p.sealed)
  pub ledger : (h : History) (moment : ℕ) (cut : Cut) (p : BasePublicationFields) → IsHistory h
      → PublishesBase (ledger_of (releases_of h)) moment cut (Ok p) → p.ledger ≡ ledger_of (releases_of (base_of h moment cut p.sealed))
  pub numbers : (h : History) (moment : ℕ) (cut : Cut) (p : BasePublicationFields) → IsHistory h
      → PublishesBase (ledger_of (releases_of h)) moment cut (Ok p) → p.counts ≡ base_counts moment cut (releases_of h)
  pub head : (cut : Cut) (rs : List Release) → base_head (releases_cut cut rs) ≡ base_head rs
  pub complete : (h : History) (moment : ℕ) (cut : Cut) → IsHistory h → IsRebasableCut moment cut h
      → (p : BasePublicationFields) × PublishesBase (ledger_of (releases_of h)) moment cut (Ok p)

-- ---- rebasing

module _ (layers : BaseLayers) where
  -- what is made of the ledger of a history
  made : (asked : Command) (files : Files) (r : Rebase) (h : History) (o : Result Done NamedFault) → IsHistory h
      → AsksToRebase asked r h files → Makes asked (held_by asked files) o → MakesBase r (ledger_of (releases_of h)) o
  made asked files r h o is p m =
      subst (λ (l : Result LedgerFields NamedFault). MakesRebase r l o) (ledger_input layers.ledgers files r.ledger h is p.1 p.2)
      (subst (λ (c : Command). Makes c (held_by c files) o) p.0 m)

  rebased_by : (r : Rebase) (h : History) (d : Done) → IsHistory h → 1 ≤ members h → (x : Result BasePublicationFields BaseFault)
      → PublishesBase (ledger_of (releases_of h)) r.moment (cut_without r.left) x → Ok d ≡ rebased_as r x
      → (made : BasePublicationFields) × BeginsAnew h r.moment (cut_without r.left) made × (d ≡ base_done r made)
  rebased_by r h d is some (Ok p) publishes is_done =
      let begins : IsHistory (base_of h r.moment (cut_without r.left) p.sealed) = layers.begins h r.moment (cut_without r.left) p is some publishes in (
        p,
        record {
          rebasable = layers.rebasable h r.moment (cut_without r.left) p is some publishes;
          is_history = begins;
          ledger = layers.ledger h r.moment (cut_without r.left) p is publishes;
          epoch = ap (λ (head : HeadFields). head.epoch) (begins.2.head_is ∙ layers.head (cut_without r.left) (releases_of h));
          counts = layers.numbers h r.moment (cut_without r.left) p is publishes;
        },
        ok_same {E = NamedFault} d (base_done r p) is_done,
      )
  rebased_by r h d is some (Err fault) publishes is_done =
      absurd (let g : ◌≡◌ {A = Result Done NamedFault} (Ok d) (rebased_as r (Err fault)) = is_done in cc)

  pub rebased_law : (asked : Command) (files : Files) (r : Rebase) (h : History) (d : Done) → IsHistory h
      → AsksToRebase asked r h files → Makes asked (held_by asked files) (Ok d)
      → (made : BasePublicationFields) × BeginsAnew h r.moment (cut_without r.left) made × (d ≡ base_done r made)
  rebased_law asked files r h d is p m =
      let x = made asked files r h (Ok d) is p m in
      rebased_by r h d is p.1 x.result x.publishes x.is

  done_by : (r : Rebase) (before : LedgerFields) (o : Result Done NamedFault) (p : BasePublicationFields) → PublishesBase before r.moment (cut_without r.left) (Ok p) → (x : Result BasePublicationFields BaseFault)
      → PublishesBase before r.moment (cut_without r.left) x → o ≡ rebased_as r x → (d : Done) × (o ≡ Ok d)
  done_by r before o p can (Ok q) publishes is = (base_done r q, is)
  done_by r before o p can (Err fault) publishes is =
      absurd (let g : ◌≡◌ {A = Result BasePublicationFields BaseFault} (Ok p) (Err fault) = layers.one before r.moment (cut_without r.left) (Ok p) (Err fault) can publishes in cc)

  pub rebasable_law : (asked : Command) (files : Files) (r : Rebase) (h : History) (o : Result Done NamedFault) → IsHistory h
      → AsksToRebase asked r h files → IsRebasableCut r.moment (cut_without r.left) h → Makes asked (held_by asked files) o → (d : Done) × (o ≡ Ok d)
  rebasable_law asked files r h o is p may m =
      let x = made asked files r h o is p m in
      let can = layers.complete h r.moment (cut_without r.left) is may in
      done_by r (ledger_of (releases_of h)) o can.0 can.1 x.result x.publishes x.is

-- ---- asking the store of the base

-- What a base keeps, and what comes of a query over the store of a history.
pub record Keeping : Type 0 where
  pub sightings_kept : (keeps : Identity → Bool) (rs : List Release) (trailer : List ℕ) (x : Identity) → has (kept_by keeps rs) x ≡ true
      → sightings x (seen (base_with keeps rs trailer ∷ [])) ≡ sightings x (seen rs)
  pub listing_kept : (keeps : Identity → Bool) (rs : List Release) (trailer : List ℕ) (x : Identity) → has (kept_by keeps rs) x ≡ true
      → is_listed (base_with keeps rs trailer ∷ []) x ≡ is_listed rs x
  pub sightings_left : (cut : Cut) (rs : List Release) (x : Identity) → is_kept cut x ≡ true
      → sightings x (seen (releases_cut cut rs)) ≡ sightings x (seen rs)
  pub listing_left : (cut : Cut) (rs : List Release) (x : Identity) → is_kept cut x ≡ true → is_listed (releases_cut cut rs) x ≡ is_listed rs x
  pub left_kept : (moment : ℕ) (cut : Cut) (rs : List Release) (x : Identity) → is_kept cut x ≡ true
      → has (kept_by (is_lasting_by moment (releases_cut cut rs)) (releases_cut cut rs)) x ≡ has (kept_by (is_lasting_by moment rs) rs) x
  pub asked : (command : Command) (files : Files) (q : Query) (h : History) (o : Result Done NamedFault)
      → IsHistory h → AsksTruth command q h files → Makes command (held_by command files) o → o ≡ Ok (truth_done h q)

module _ (keeping : Keeping) where
  pub kept_law : (h : History) (moment : ℕ) (cut : Cut) (s : SealedFields) (q : Query) → IsKept moment (releases_of h) q.id
      → is_kept cut q.id ≡ true → (sightings q.id (seen (releases_of (base_of h moment cut s))) ≡ sightings q.id (seen (releases_of h)))
      × (truth_line (base_of h moment cut s) q ≡ truth_line h q)
  kept_law h moment cut s q kept other =
      let rest : List Release = releases_cut cut (releases_of h) in
      let keeps = is_lasting_by moment rest in
      let stays : has (kept_by keeps rest) q.id ≡ true = keeping.left_kept moment cut (releases_of h) q.id other ∙ kept in (
        keeping.sightings_kept keeps rest s.trailer q.id stays ∙ keeping.sightings_left cut (releases_of h) q.id other,
        ap (λ (b : Bool). line (verdict_word (if b then Revoked else Good))) (keeping.listing_kept keeps rest s.trailer q.id stays ∙ keeping.listing_left cut (releases_of h) q.id other),
      )

  pub base_asked : (command : Command) (files : Files) (q : Query) (h : History) (moment : ℕ) (cut : Cut) (s : SealedFields)
      (o : Result Done NamedFault) → IsHistory (base_of h moment cut s) → AsksTheBase command q h moment cut s files
      → Makes command (held_by command files) o → o ≡ Ok (truth_done h q)
  base_asked command files q h moment cut s o is a m =
      let k = kept_law h moment cut s q a.1 a.2 in
      let again : AsksTruth command q (base_of h moment cut s) files = (
        a.0,
        omega arith,
        a.3,
        a.4,
        λ t among. subst (λ (ts : List Sighting). Among ts t) (sym k.0) (a.5 t among),
      ) in
      keeping.asked command files q (base_of h moment cut s) o is again m ∙ ap (λ (text : List ℕ). Ok (only text)) k.1

-- ---- asking for what a base leaves out

-- What the parts of a history say of an issuer that its base leaves out, and what a query of its store says.
pub record Leaving : Type 0 where
  pub unenrolled : (h : History) (x : Identity) (ss : List Sighting) → IsHistory h → LeavesOut h x.issuer
      → verdict (map (λ t. t.part) (parts_of h)) x ss ≡ (if list_any (covers_some ss) (map (λ t. t.part) (parts_of h)) then NotEnrolled else NotCovered)
  pub told : (command : Command) (files : Files) (q : Query) (h : History) (o : Result Done NamedFault)
      → IsHistory h → AsksStore command q h files → Makes command (held_by command files) o → o ≡ Ok (query_done q (parts_of h))

module _ (leaving : Leaving) where
  some_cover : (ss : List Sighting) (parts : List SealedFields) (s : Sighting) (t : SealedFields) → Among ss s → Among parts t → covers t.part.head.ranges s ≡ true
      → list_any (covers_some ss) (map (λ t. t.part) parts) ≡ true
  some_cover ss parts s t a b c =
      any_at (covers_some ss) (map (λ (t : SealedFields). t.part) parts) t.part (Among-in_map (λ (t : SealedFields). t.part) parts t b)
      (any_at (covers t.part.head.ranges) ss s a c)

  pub left_out_law : (command : Command) (files : Files) (q : Query) (h : History) (o : Result Done NamedFault)
      → IsHistory h → AsksOfLeftOut command q h files → Makes command (held_by command files) o → o ≡ Ok (only (line (verdict_word NotEnrolled)))
  left_out_law command files q h o is a m =
      let n = a.4 in
      leaving.told command files q h o is (a.0, a.1, a.2) m
      ∙ ap (λ (v : Verdict). Ok (only (line (verdict_word v))))
      (leaving.unenrolled h q.id q.sightings is a.3 ∙ ap (λ (b : Bool). if b then NotEnrolled else NotCovered) (some_cover q.sightings (parts_of h) n.0 n.1 n.2 n.3 n.4))
