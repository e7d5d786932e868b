-- What comes of files that are rehearsed is the same stated of them all and stated file by file.
use Rattle.std.proofs.Common.{◌≡◌, ℕ, zero, suc, ◌⊎◌, inl, inr, List, [], ◌∷◌, ◌++◌, take, length, append_assoc, Option, Some, None, Result, Ok, Err, refl, sym, ap, subst, ◌∙◌, arith}
use Rattle.std.specs.Prelude.{slice_get, All}
use Rattle.std.proofs.lemmas.List.{append-nil}
use Rattle.std.proofs.lemmas.List.Elements.{All-nil, All-cons, All-head, All-tail}
use Rattle.input_core.specs.Queries.{Query}
use Rattle.job_core.specs.Fitting.{FitsFields}
use Rattle.publication_core.specs.Histories.{Published, of_jobs, IsHistory}
use Rattle.input_core.specs.Inputs.{Inputs, rest_of}
use Rattle.command_core.specs.ReplyFields.{Done, NamedFault}
use Rattle.command_core.specs.Commands.{rehearsed, IsFileRefused, AreReadMembers, Rehearses}
use Rattle.command_core.specs.Steps.{RehearsesOn}
use Rattle.command_core.proofs.Chains.{first_jobs}

-- the job of a member fits its fields
abbrev Fits : Published → Type 0
Fits p = FitsFields p.job.job

-- the files are all taken, or the next one is refused
abbrev Then : List Query → List Published → ℕ → List (List ℕ) → Inputs → Result Done NamedFault → Type 0
Then queries all n names inputs o =
    ((n ≡ length names) × (o ≡ Ok (rehearsed queries all)))
    ⊎ ((name : List ℕ) × (e : NamedFault) × (slice_get names n ≡ Some name)
    × IsFileRefused (of_jobs all) name (inputs n) e × (o ≡ Err e))

-- ---- from file by file

-- the same behind other jobs
record Behind
    (queries : List Query) (before : List Published) (names : List (List ℕ)) (inputs : Inputs)
    (o : Result Done NamedFault)
    : Type 0 where
  pub n : ℕ
  pub jobs : List Published
  pub all : List Published
  pub are : all ≡ before ++ jobs
  pub hold : AreReadMembers (take n names) inputs jobs
  pub fit : All Fits jobs
  pub is_history : IsHistory (of_jobs all)
  pub then : Then queries all n names inputs o

then_more : (queries : List Query) (all : List Published) (n : ℕ) (name : List ℕ)
    (names : List (List ℕ)) (inputs : Inputs) (o : Result Done NamedFault)
    → Then queries all n names (rest_of inputs) o → Then queries all (suc n) (name ∷ names) inputs o
then_more queries all n name names inputs o (inl (is, done)) = inl (ap (λ (k : ℕ). suc k) is, done)
then_more queries all n name names inputs o (inr refused) = inr refused

-- where no more files are taken
stops : (queries : List Query) (before : List Published) (names : List (List ℕ)) (inputs : Inputs) (o : Result Done NamedFault)
    → IsHistory (of_jobs before) → Then queries before 0 names inputs o → Behind queries before names inputs o
stops queries before names inputs o is then = record {
  n = 0;
  jobs = [];
  all = before;
  are = sym (append-nil before);
  hold = tt;
  fit = All-nil Fits;
  is_history = is;
  then = then;
}

behind : (queries : List Query) (before : List Published) (names : List (List ℕ))
    (inputs : Inputs) (o : Result Done NamedFault) → IsHistory (of_jobs before)
    → RehearsesOn queries before names inputs o → Behind queries before names inputs o
behind queries before [] inputs o is m = stops queries before [] inputs o is (inl (refl, m))
behind queries before (name ∷ names) inputs o is (inl (e, refused, same)) =
    stops queries before (name ∷ names) inputs o is (inr (name, e, refl, refused, same))
behind queries before (name ∷ names) inputs o is (inr (p, is_job, fits, is_more, rest)) =
    let b = behind queries (before ++ p ∷ []) names (rest_of inputs) o is_more rest in
    record {
      n = suc b.n;
      jobs = p ∷ b.jobs;
      all = b.all;
      are = b.are ∙ append_assoc before (p ∷ []) b.jobs;
      hold = (is_job, b.hold);
      fit = All-cons Fits p b.jobs fits b.fit;
      is_history = b.is_history;
      then = then_more queries b.all b.n name names inputs o b.then;
    }

pub first_of : (queries : List Query) (names : List (List ℕ)) (inputs : Inputs)
    (o : Result Done NamedFault) → RehearsesOn queries [] names inputs o → Rehearses queries names inputs o
first_of queries names inputs o m =
    let b = behind queries [] names inputs o tt m in
    record {
      n = b.n;
      jobs = b.all;
      hold = subst (λ (ps : List Published). AreReadMembers (take b.n names) inputs ps) (sym b.are) b.hold;
      fit = subst (All Fits) (sym b.are) b.fit;
      is_history = b.is_history;
      then = b.then;
    }

-- ---- to file by file

some_name : (a b : List ℕ) → ◌≡◌ {A = Option (List ℕ)} (Some a) (Some b) → a ≡ b
some_name a b h = cc

no_name : (name : List ℕ) → ◌≡◌ {A = Option (List ℕ)} None (Some name) → ⊥
no_name name h = cc

none_left : (queries : List Query) (before : List Published) (n : ℕ) (inputs : Inputs) (o : Result Done NamedFault)
    → Then queries before n [] inputs o → o ≡ Ok (rehearsed queries before)
none_left queries before n inputs o (inl (is, done)) = done
none_left queries before n inputs o (inr (name, e, at, refused, is)) = absurd (no_name name at)

refused_here : (queries : List Query) (before : List Published) (name : List ℕ) (names : List (List ℕ)) (inputs : Inputs)
    (o : Result Done NamedFault) → Then queries before 0 (name ∷ names) inputs o
    → (e : NamedFault) × IsFileRefused (of_jobs before) name (inputs 0) e × (o ≡ Err e)
refused_here queries before name names inputs o (inl (is, done)) = absurd (omega (arith, is))
refused_here queries before name names inputs o (inr (m, e, at, refused, is)) =
    (e, subst (λ (k : List ℕ). IsFileRefused (of_jobs before) k (inputs 0) e) (sym (some_name name m at)) refused, is)

then_rest : (queries : List Query) (all : List Published) (n : ℕ) (name : List ℕ)
    (names : List (List ℕ)) (inputs : Inputs) (o : Result Done NamedFault)
    → Then queries all (suc n) (name ∷ names) inputs o → Then queries all n names (rest_of inputs) o
then_rest queries all n name names inputs o (inl (is, done)) = inl (omega (arith, is), done)
then_rest queries all n name names inputs o (inr refused) = inr refused

back : (queries : List Query) (before : List Published) (names : List (List ℕ))
    (inputs : Inputs) (o : Result Done NamedFault) (n : ℕ) (jobs : List Published) → AreReadMembers (take n names) inputs jobs
    → All Fits jobs → IsHistory (of_jobs (before ++ jobs)) → Then queries (before ++ jobs) n names inputs o → RehearsesOn queries before names inputs o
back queries before [] inputs o zero [] hold fit is then =
    none_left queries before 0 inputs o (subst (λ (ps : List Published). Then queries ps 0 [] inputs o) (append-nil before) then)
back queries before [] inputs o (suc n) [] hold fit is then =
    none_left queries before (suc n) inputs o (subst (λ (ps : List Published). Then queries ps (suc n) [] inputs o) (append-nil before) then)
back queries before [] inputs o zero (p ∷ jobs) hold fit is then = absurd hold
back queries before [] inputs o (suc n) (p ∷ jobs) hold fit is then = absurd hold
back queries before (name ∷ names) inputs o zero [] hold fit is then =
    inl (refused_here queries before name names inputs o (subst (λ (ps : List Published). Then queries ps 0 (name ∷ names) inputs o) (append-nil before) then))
back queries before (name ∷ names) inputs o zero (p ∷ jobs) hold fit is then = absurd hold
back queries before (name ∷ names) inputs o (suc n) [] hold fit is then = absurd hold
back queries before (name ∷ names) inputs o (suc n) (p ∷ jobs) hold fit is then =
    let same : before ++ p ∷ jobs ≡ (before ++ p ∷ []) ++ jobs = sym (append_assoc before (p ∷ []) jobs) in
    inr (
      p,
      hold.0,
      All-head Fits p jobs fit,
      first_jobs before p jobs is,
      back queries (before ++ p ∷ []) names (rest_of inputs) o n jobs hold.1 (All-tail Fits p jobs fit) (subst (λ (ps : List Published). IsHistory (of_jobs ps)) same is)
          (then_rest queries ((before ++ p ∷ []) ++ jobs) n name names inputs o (subst (λ (ps : List Published). Then queries ps (suc n) (name ∷ names) inputs o) same then)),
    )

pub from_first : (queries : List Query) (names : List (List ℕ)) (inputs : Inputs)
    (o : Result Done NamedFault) → Rehearses queries names inputs o → RehearsesOn queries [] names inputs o
from_first queries names inputs o r = back queries [] names inputs o r.n r.jobs r.hold r.fit r.is_history r.then
