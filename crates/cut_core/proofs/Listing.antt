-- What is listed, by the whole jobs.
use Rattle.std.specs.List.{list_any, AllZip}
use Rattle.std.proofs.Common.{◌≡◌, ℕ, List, [], ◌∷◌, map, drop, Bool, true, ◌&&◌, ◌||◌, refl, sym, ap, ◌∙◌}
use Rattle.std.proofs.lemmas.List.{drop-map}
use Rattle.ident_core.specs.declared.identity.Identity.{Identity}
use Rattle.universe_core.specs.Jobs.{JobFacts, is_enrolled, lists}
use Rattle.universe_core.specs.Formats.{JobIn, facts_in}
use Rattle.universe_core.specs.History.{birth, is_listed}
use Rattle.universe_core.proofs.Enrolled.{enrolled_test}
use Rattle.publication_core.specs.Histories.{Published, of_jobs, releases_of}
use Rattle.publication_core.proofs.Facts.{listed_in_jobs}
use Rattle.place_core.specs.Cuts.{Cut, is_kept}
use Rattle.cut_core.specs.Cutting.{cut_in, cut_facts, IsCut}
use Rattle.cut_core.specs.Courses.{from_jobs, left}
use Rattle.cut_core.proofs.Steps.{enrolls_kept, lists_kept}
use Rattle.cut_core.proofs.Releases.{listed_beside, birth_beside}
use Rattle.cut_core.proofs.Courses.{facts_cut, history_beside}

module _ (cut : Cut) (x : Identity) (k : is_kept cut x ≡ true) where
  abbrev says : JobFacts → Bool
  says job = lists job x && is_enrolled job x.issuer

  says_cut : (job : JobFacts) → says (cut_facts cut job) ≡ says job
  says_cut job =
      ap (λ (b : Bool). b && is_enrolled (cut_facts cut job) x.issuer) (lists_kept cut job x k)
      ∙ ap (λ (b : Bool). lists job x && b) (sym (enrolled_test (cut_facts cut job) x.issuer) ∙ enrolls_kept cut job x k
      ∙ enrolled_test job x.issuer)

  any_says : (jobs : List JobIn) → list_any (λ j. says (facts_in j)) (map (cut_in cut) jobs) ≡ list_any (λ j. says (facts_in j)) jobs
  any_says [] = refl
  any_says (j ∷ jobs) =
      ap (λ (b : Bool). b || list_any (λ i. says (facts_in i)) (map (cut_in cut) jobs)) (ap says (facts_cut cut j) ∙ says_cut (facts_in j))
      ∙ ap (λ (b : Bool). says (facts_in j) || b) (any_says jobs)

  any_jobs : (ps : List Published) → list_any (λ p. says (facts_in p.job)) ps ≡ list_any (λ j. says (facts_in j)) (map (λ p. p.job) ps)
  any_jobs [] = refl
  any_jobs (p ∷ ps) = ap (λ (b : Bool). says (facts_in p.job) || b) (any_jobs ps)

  pub listed_by_jobs : (jobs : List JobIn) (ps : List Published) → map (λ p. p.job) ps ≡ map (cut_in cut) jobs
      → is_listed (left (from_jobs jobs)) x ≡ list_any (λ j. lists (facts_in j) x && is_enrolled (facts_in j) x.issuer)
      (drop (birth x (left (from_jobs jobs))) jobs)
  listed_by_jobs jobs ps e =
      let born : ℕ = birth x (left (from_jobs jobs)) in
      let z : AllZip (IsCut cut) (left (from_jobs jobs)) (releases_of (of_jobs ps)) = history_beside cut (from_jobs jobs) (of_jobs ps) (ap from_jobs e) in
      sym (listed_beside cut x k (left (from_jobs jobs)) (releases_of (of_jobs ps)) z)
      ∙ listed_in_jobs ps x
      ∙ ap (λ n. list_any (λ p. says (facts_in p.job)) (drop n ps)) (birth_beside cut x k (left (from_jobs jobs)) (releases_of (of_jobs ps)) z)
      ∙ any_jobs (drop born ps)
      ∙ ap (list_any (λ j. says (facts_in j))) (sym (drop-map (λ (p : Published). p.job) born ps) ∙ ap (drop born) e ∙ drop-map (cut_in cut) born jobs)
      ∙ any_says (drop born jobs)
