-- The answers of the parts of a history are the truth.
use Rattle.std.specs.List.{list_any, filter, filter_map, AllZip}
use Rattle.std.proofs.Common.{◌≡◌, inl, ⊎_elim, List, [], ◌∷◌, Bool, true, Option, Some, None, refl, sym, ap, ◌∙◌}
use Rattle.std.proofs.lemmas.Bool.{cases_Bool}
use Rattle.ident_core.specs.declared.identity.Identity.{Identity}
use Rattle.ident_core.specs.declared.range.Sighting.{Sighting}
use Rattle.ident_core.specs.Coverage.{covers}
use Rattle.ident_core.specs.Among.{Among}
use Rattle.ident_core.specs.Sets.{has, has_key}
use Rattle.ident_core.proofs.Elements.{Among-filter, Among-in_filter, Among-filter_map, Among-in_filter_map, found, any_at, zip_left, zip_right, bool_same}
use Rattle.universe_core.specs.History.{Release, sightings, seen, is_listed}
use Rattle.history_core.specs.Facts.{IsSound}
use Rattle.history_core.specs.Showing.{PartView, Shows, covers_some, answers_of}
use Rattle.history_core.proofs.Sightings.{Among-sightings}
use Rattle.history_core.proofs.Releases.{settled_parts}

-- ---- the answers

-- a list with an element has a first one
first_of : (bs : List Bool) (b : Bool) (l : Bool) → Among bs b → list_any (λ c. c) bs ≡ l → (a : Bool) × (others : List Bool) × (bs ≡ a ∷ others) × (list_any (λ c. c) (a ∷ others) ≡ l)
first_of [] b l h e = absurd h
first_of (a ∷ others) b l h e = (a, others, refl, e)

says_none : (o : Option Bool) → o ≡ None → o ≡ Some true → ⊥
says_none o e f = cc

some_is : (b c : Bool) → ◌≡◌ {A = Option Bool} (Some b) (Some c) → b ≡ c
some_is b c e = cc

module _ (parts : List PartView) (rs : List Release) (x : Identity) (s : Sighting) (ss : List Sighting)
    (sound : IsSound rs) (shows : AllZip Shows parts rs) (asked : (t : Sighting) → Among (s ∷ ss) t → Among (sightings x (seen rs)) t) where
  abbrev answers : List Bool
  answers = filter_map (λ p. p.consulted x) (filter (covers_some (s ∷ ss)) parts)

  -- what a part that covers a sighting answers, where its release enrolls the issuer
  answer_of : (t : Sighting) → Among (s ∷ ss) t → (p : PartView) (r : Release) → Shows p r → Among rs r → covers p.ranges t ≡ true
      → has_key r.issuers x.issuer ≡ true → p.consulted x ≡ Some (has r.revoked x)
  answer_of t a p r sh i c k =
      let m = Among-sightings x (seen rs) t (asked t a) in
      let here : covers r.ranges m.0.sighting ≡ true = ap (λ cs. covers cs m.0.sighting) (sym sh.ranges) ∙ ap (covers p.ranges) m.3 ∙ c in
      let enrolls : has_key r.issuers m.0.id.issuer ≡ true = ap (λ (y : Identity). has_key r.issuers y.issuer) (sym m.2) ∙ k in
      let accepted : has r.accepted x ≡ true = ap (has r.accepted) m.2 ∙ sound.timely m.0 m.1 r i here enrolls in
      let b = sh.some x k in
      b.1 ∙ ap Some (b.2 accepted)

  revoked_if : list_any (λ c. c) answers ≡ true → is_listed rs x ≡ true
  revoked_if h =
      let b = found (λ c. c) answers h in
      let p = Among-filter_map (λ q. q.consulted x) (filter (covers_some (s ∷ ss)) parts) b.0 b.1 in
      let f = Among-filter (covers_some (s ∷ ss)) parts p.0 p.1 in
      let t = found (covers p.0.ranges) (s ∷ ss) f.1 in
      let r = zip_left Shows parts rs p.0 shows f.0 in
      let yes : p.0.consulted x ≡ Some true = p.2 ∙ ap Some b.2 in
      ⊎_elim
      (λ k. sound.revoked x r.0 r.1 (some_is (has r.0.revoked x) true (sym (answer_of t.0 t.1 p.0 r.0 r.2 r.1 t.2 k) ∙ yes)))
      (λ k. absurd (says_none (p.0.consulted x) (r.2.other x k) yes)) (cases_Bool (has_key r.0.issuers x.issuer))

  in_answers : (p : PartView) (r : Release) → Shows p r → Among rs r → Among parts p → covers p.ranges s ≡ true → has_key r.issuers x.issuer ≡ true → Among answers (has r.revoked x)
  in_answers p r sh i a c k =
      Among-in_filter_map (λ q. q.consulted x) (filter (covers_some (s ∷ ss)) parts) p (has r.revoked x)
      (Among-in_filter (covers_some (s ∷ ss)) parts p a (any_at (covers p.ranges) (s ∷ ss) s (inl refl) c)) (answer_of s (inl refl) p r sh i c k)

  if_revoked : is_listed rs x ≡ true → list_any (λ c. c) answers ≡ true
  if_revoked h =
      let st = settled_parts rs x (sightings x (seen rs)) (sound.settled x h) in
      let p = zip_right Shows parts rs st.by shows st.among in
      let c : covers p.0.ranges s ≡ true = ap (λ cs. covers cs s) p.2.ranges ∙ st.covered s (asked s (inl refl)) in
      any_at (λ b. b) answers (has st.by.revoked x) (in_answers p.0 st.by p.2 st.among p.1 c ((sound.formed st.by st.among).enrolled x st.revoked)) st.revoked

  -- There is an answer, and one of them is positive exactly if the certificate is listed.
  pub answers_are_truth : (a : Bool) × (others : List Bool) × (answers_of x (s ∷ ss) parts ≡ a ∷ others) × (list_any (λ b. b) (a ∷ others) ≡ is_listed rs x)
  unfolding answers_of
  answers_are_truth =
      let m = Among-sightings x (seen rs) s (asked s (inl refl)) in
      let r = sound.covered m.0 m.1 in
      let p = zip_right Shows parts rs r.0 shows r.1 in
      let c : covers p.0.ranges s ≡ true = ap (λ cs. covers cs s) p.2.ranges ∙ ap (covers r.0.ranges) (sym m.3) ∙ r.2 in
      let k : has_key r.0.issuers x.issuer ≡ true = ap (λ (y : Identity). has_key r.0.issuers y.issuer) m.2 ∙ r.3 in
      first_of answers (has r.0.revoked x) (is_listed rs x) (in_answers p.0 r.0 p.2 r.1 p.1 c k)
      (bool_same (list_any (λ b. b) answers) (is_listed rs x) revoked_if if_revoked)
