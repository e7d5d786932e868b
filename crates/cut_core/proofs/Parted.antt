-- Cut jobs have parts, where each of their groups has a block.
use Rattle.std.specs.List.{AllZip}
use Rattle.std.proofs.Common.{◌≡◌, ℕ, List, [], ◌∷◌, ◌++◌, map, refl, sym, ap, ◌∙◌, subst}
use Rattle.std.proofs.lemmas.List.{map-append}
use Rattle.sha2.specs.Sha256.{sha256}
use Rattle.ident_core.specs.declared.identity.Identity.{Identity}
use Rattle.ident_core.specs.HeadFields.{zero_key}
use Rattle.ident_core.specs.Sets.{has}
use Rattle.card_core.specs.PartFields.{PartFields}
use Rattle.part_text.specs.PartText.{unsealed_text}
use Rattle.part_text.specs.SealedFields.{SealedFields}
use Rattle.universe_core.specs.Formats.{JobIn, facts_in}
use Rattle.universe_core.specs.Groups.{GroupFields, members_of, groups}
use Rattle.universe_core.specs.History.{Release, past_of, released}
use Rattle.universe_core.specs.Ledgers.{part_from}
use Rattle.universe_core.specs.Step.{head_after}
use Rattle.publication_core.specs.Building.{HaveBlocks}
use Rattle.publication_core.specs.Histories.{Published, groups_of, IsAdmissible, IsPartOf, release_of, AreAdmissible, History, of_jobs, rebased, with_job}
use Rattle.publication_core.specs.Histories.{IsHistory, releases_of}
use Rattle.publication_core.proofs.Histories.{with_job_is}
use Rattle.place_core.specs.Cuts.{Cut}
use Rattle.cut_core.specs.Cutting.{cut_in, cut_facts, IsCut}
use Rattle.cut_core.specs.Courses.{Course, from_jobs, from_base, cut_course, course_of, HaveBlocksBehind}
use Rattle.cut_core.proofs.Admitting.{admissible_beside}
use Rattle.cut_core.proofs.Courses.{facts_cut, next_beside}
use Rattle.cut_core.proofs.Releases.{released_beside}
use Rattle.cut_core.proofs.Wholes.{cut_beside}

-- a job whose groups have blocks has a part
part_there : (rs : List Release) (j : JobIn) → HaveBlocks j.format (groups_of rs (facts_in j)) → (s : SealedFields) × IsPartOf rs j s
part_there rs j (blocks, are) =
    let made : PartFields = record { head = head_after (map part_from rs) (facts_in j); blocks = blocks } in
    (record { part = made; trailer = sha256 (unsealed_text made) }, record { head_is = refl; blocks = are; trailer = refl })

-- ---- what is kept has the same groups, whatever the trailers before

abbrev grouped : List Identity → List Identity → List (List ℕ) → List GroupFields
grouped accepted revoked issuers =
    map (λ issuer. record {
      issuer = issuer;
      universe = members_of issuer accepted;
      revoked = map (has revoked) (members_of issuer accepted);
    }) issuers

groups_are : (r : Release) → groups r ≡ grouped r.accepted r.revoked r.issuers
unfolding groups
groups_are r = refl

module _ (cut : Cut) where
  groups_cut : (r a b : Release) → IsCut cut r a → IsCut cut r b → groups a ≡ groups b
  groups_cut r a b x y =
      groups_are a
      ∙ ap (λ (xs : List Identity). grouped xs a.revoked a.issuers) (x.accepted ∙ sym y.accepted)
      ∙ ap (λ (xs : List Identity). grouped b.accepted xs a.issuers) (x.revoked ∙ sym y.revoked)
      ∙ ap (grouped b.accepted b.revoked) (x.issuers ∙ sym y.issuers)
      ∙ sym (groups_are b)

  groups_same : (rs qs ls : List Release) (j : JobIn) → AllZip (IsCut cut) rs qs → AllZip (IsCut cut) rs ls
      → groups_of ls (facts_in (cut_in cut j)) ≡ groups_of qs (facts_in (cut_in cut j))
  groups_same rs qs ls j z y =
      ap (groups_of ls) (facts_cut cut j)
      ∙ groups_cut (released (past_of rs) (facts_in j) []) (released (past_of ls) (cut_facts cut (facts_in j)) [])
      (released (past_of qs) (cut_facts cut (facts_in j)) [])
      (released_beside cut rs ls (facts_in j) [] [] y) (released_beside cut rs qs (facts_in j) [] [] z)
      ∙ ap (groups_of qs) (sym (facts_cut cut j))

  -- ---- one job after the other

  parted_behind : (rs qs ls : List Release) (ps : List Published) → AllZip (IsCut cut) rs qs → AllZip (IsCut cut) rs ls
      → AreAdmissible rs ps → HaveBlocksBehind ls (map (cut_in cut) (map (λ p. p.job) ps))
      → (kept : List Published) × AreAdmissible qs kept × (map (λ p. p.job) kept ≡ map (cut_in cut) (map (λ p. p.job) ps))
  parted_behind rs qs ls [] z y h b = ([], tt, refl)
  parted_behind rs qs ls (p ∷ ps) z y h b =
      let j : JobIn = p.job in
      let have : HaveBlocks j.format (groups_of qs (facts_in (cut_in cut j))) = subst (HaveBlocks j.format) (groups_same rs qs ls j z y) b.0 in
      let s = part_there qs (cut_in cut j) have in
      let made : Published = record { job = cut_in cut j; sealed = s.0 } in
      let on = parted_behind (rs ++ release_of rs p ∷ []) (qs ++ release_of qs made ∷ [])
      (ls ++ released (past_of ls) (facts_in (cut_in cut j)) zero_key ∷ []) ps
      (next_beside cut rs qs j p.sealed.trailer s.0.trailer z) (next_beside cut rs ls j p.sealed.trailer zero_key y) h.2 b.1 in
      (made ∷ on.0, (admissible_beside cut rs qs j z h.0 have, s.1, on.1), ap (λ (js : List JobIn). cut_in cut j ∷ js) on.2)

  pub jobs_parted : (ps : List Published) → IsHistory (of_jobs ps) → HaveBlocksBehind [] (map (cut_in cut) (map (λ p. p.job) ps))
      → (h : History) × IsHistory h × (course_of h ≡ cut_course cut (course_of (of_jobs ps)))
  jobs_parted ps is blocks = let on = parted_behind [] [] [] ps tt tt is blocks in (of_jobs on.0, on.1, ap from_jobs on.2)

  -- ---- one job more, behind jobs or a base

  abbrev with_more : Course → JobIn → Course
  with_more (from_jobs jobs) j = from_jobs (jobs ++ j ∷ [])
  with_more (from_base c moment without jobs) j = from_base c moment without (jobs ++ j ∷ [])

  course_more : (h : History) (j : JobIn) (s : SealedFields) → course_of (with_job h j s) ≡ with_more (course_of h) j
  course_more (of_jobs ps) j s = ap from_jobs (map-append (λ p. p.job) ps (record { job = j; sealed = s } ∷ []))
  course_more (rebased h moment without base ps) j s = ap (from_base (course_of h) moment without) (map-append (λ p. p.job) ps (record { job = j; sealed = s } ∷ []))

  cut_more : (c : Course) (j : JobIn) → cut_course cut (with_more c j) ≡ with_more (cut_course cut c) (cut_in cut j)
  cut_more (from_jobs jobs) j = ap from_jobs (map-append (cut_in cut) jobs (j ∷ []))
  cut_more (from_base c moment without jobs) j = ap (from_base (cut_course cut c) moment without) (map-append (cut_in cut) jobs (j ∷ []))

  pub next_course : (whole kept : History) (j : JobIn) (s t : SealedFields) → course_of kept ≡ cut_course cut (course_of whole)
      → course_of (with_job kept (cut_in cut j) s) ≡ cut_course cut (course_of (with_job whole j t))
  next_course whole kept j s t same =
      course_more kept (cut_in cut j) s ∙ ap (λ (c : Course). with_more c (cut_in cut j)) same ∙ sym (cut_more (course_of whole) j)
      ∙ ap (cut_course cut) (sym (course_more whole j t))

  pub next_parted : (whole kept : History) (j : JobIn) → IsHistory whole → IsHistory kept
      → course_of kept ≡ cut_course cut (course_of whole) → IsAdmissible (releases_of whole) j
      → HaveBlocks j.format (groups_of (releases_of kept) (facts_in (cut_in cut j)))
      → (s : SealedFields) × IsHistory (with_job kept (cut_in cut j) s)
  next_parted whole kept j before is same a have =
      let rs : List Release = releases_of whole in
      let qs : List Release = releases_of kept in
      let p = part_there qs (cut_in cut j) have in (
        p.0,
        with_job_is kept (record { job = cut_in cut j; sealed = p.0 }) is
            (admissible_beside cut rs qs j (cut_beside whole cut kept same) a have) p.1,
      )
