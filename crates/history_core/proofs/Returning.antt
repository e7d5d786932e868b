-- Issuers that no release enrolls, and what a job accepts of them.
use Rattle.std.specs.List.{flat_map}
use Rattle.std.proofs.Common.{◌≡◌, ℕ, inl, inr, ⊎_elim, List, [], ◌∷◌, ◌++◌, map, Bool, true, false, not, ◌&&◌, ◌||◌, Some, refl, sym, ◌∙◌, subst}
use Rattle.std.proofs.lemmas.Bool.{true≢false, false≢true}
use Rattle.ident_core.specs.declared.identity.Identity.{Identity}
use Rattle.ident_core.specs.declared.range.Sighting.{Sighting}
use Rattle.ident_core.specs.Coverage.{covers}
use Rattle.ident_core.specs.Among.{Among}
use Rattle.ident_core.specs.Sets.{has, has_key}
use Rattle.place_core.specs.Cuts.{Cut}
use Rattle.ident_core.proofs.Elements.{Among-filter, Among-map, Among-right, Among-cases}
use Rattle.ident_core.proofs.Sets.{Among-from_has_key, Among-from_key_set}
use Rattle.universe_core.specs.Jobs.{Entry, JobFacts, enrolled}
use Rattle.universe_core.specs.History.{Release, past_of, released, shown, seen, comes_late_behind}
use Rattle.history_core.specs.Bases.{all_issuers, base_with, release_cut, releases_cut}
use Rattle.history_core.proofs.Accepting.{IsShown, shown_has}
use Rattle.history_core.proofs.Releases.{seen-push}

-- ---- a base has no issuer that is left out

Among-from_flat_map : (rs : List Release) (k : List ℕ) → Among (flat_map (λ (r : Release). r.issuers) rs) k → (r : Release) × Among rs r × Among r.issuers k
Among-from_flat_map [] k a = absurd a
Among-from_flat_map (r ∷ rs) k a =
    ⊎_elim (λ here. (r, inl refl, here))
    (λ later. let n = Among-from_flat_map rs k later in (n.0, inr n.1, n.2)) (Among-cases r.issuers (flat_map (λ (q : Release). q.issuers) rs) k a)

never : (b : Bool) → (b ≡ true → ⊥) → b ≡ false
never true h = absurd (h refl)
never false h = refl

left_out_of : (cut : Cut) (rs : List Release) (k : List ℕ) → cut.takes k ≡ false → has_key (all_issuers (releases_cut cut rs)) k ≡ true → ⊥
unfolding releases_cut
left_out_of cut rs k h a =
    let n = Among-from_flat_map (map (release_cut cut) rs) k (Among-from_key_set (flat_map (λ (r : Release). r.issuers) (map (release_cut cut) rs)) k
    (Among-from_has_key (all_issuers (map (release_cut cut) rs)) k a)) in
    let m = Among-map (release_cut cut) rs n.0 n.1 in
    let f = Among-filter cut.takes m.0.issuers k (subst (λ (r : Release). Among r.issuers k) (sym m.2) n.2) in
    false≢true (sym h ∙ f.1)

pub base_unenrolled : (keeps : Identity → Bool) (cut : Cut) (rs : List Release) (trailer k : List ℕ) → cut.takes k ≡ false
    → has_key (base_with keeps (releases_cut cut rs) trailer).issuers k ≡ false
unfolding base_with
base_unenrolled keeps cut rs trailer k h = never (has_key (all_issuers (releases_cut cut rs)) k) (left_out_of cut rs k h)

-- ---- what comes of its entries

lacks_not : (a b c : Bool) → b ≡ false → (a && b && not c) ≡ false
lacks_not true true c h = absurd (true≢false h)
lacks_not true false c h = refl
lacks_not false b c h = refl

-- none is late while no release enrolls the issuer
pub none_lacked : (rs : List Release) (x : Identity) (s : Sighting) → ((r : Release) → Among rs r → has_key r.issuers x.issuer ≡ false) → comes_late_behind rs x s ≡ false
unfolding comes_late_behind
none_lacked [] x s h = refl
none_lacked (r ∷ rs) x s h =
    λ i. lacks_not (covers r.ranges s) (has_key r.issuers x.issuer) (has r.accepted x) (h r (inl refl)) i || none_lacked rs x s (λ q a. h q (inr a)) i

lacked_is : (rs : List Release) (x : Identity) (s : Sighting) → (past_of rs).comes_late x s ≡ comes_late_behind rs x s
unfolding past_of
lacked_is rs x s = refl

-- so a job that covers and enrolls it accepts each
pub entry_seen : (rs : List Release) (job : JobFacts) (trailer : List ℕ) (e : Entry) → ((r : Release) → Among rs r → has_key r.issuers e.id.issuer ≡ false)
    → Among job.entries (Some e) → covers job.ranges e.sighting ≡ true → has_key (enrolled job) e.id.issuer ≡ true
    → Among (seen (rs ++ released (past_of rs) job trailer ∷ [])) e
entry_seen rs job trailer e h a v k =
    let is : IsShown (past_of rs) job e = record { covered = v; enrolled = k; timely = lacked_is rs e.id e.sighting ∙ none_lacked rs e.id e.sighting h } in
    subst (λ (es : List Entry). Among es e) (sym (seen-push rs (released (past_of rs) job trailer)))
    (Among-right (seen rs) (shown (past_of rs) job) e (shown_has (past_of rs) job e a is))
