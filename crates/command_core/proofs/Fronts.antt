-- Inputs that are read one after the other: the first of them, and what is read behind them.
use Rattle.std.proofs.Common.{◌≡◌, ℕ, zero, suc, ◌+◌, ◌<◌, ◌≤◌, inl, inr, List, [], ◌∷◌, ◌++◌, take, drop, get_or, length, Option, None, refl, sym, ap, ◌∙◌, subst}
use Rattle.std.specs.List.{AllZip}
use Rattle.std.proofs.lemmas.List.{append-nil, take_more, drop_more, take_all, take-append-drop}
use Rattle.outside_core.specs.Files.{Files}
use Rattle.ident_core.specs.Among.{Among}
use Rattle.input_core.specs.Inputs.{Inputs, rest_of, IsRead, AreRead}
use Rattle.input_core.proofs.FilesRead.{some_read, later_read}

-- ---- inputs

abbrev pub no_inputs : Inputs
no_inputs = λ i. None

abbrev behind_one : Option (List ℕ) → Inputs → ℕ → Option (List ℕ)
behind_one given rest zero = given
behind_one given rest (suc i) = rest i

-- these inputs, and those behind them
abbrev pub ahead : List (Option (List ℕ)) → Inputs → Inputs
ahead [] rest = rest
ahead (given ∷ first) rest = behind_one given (ahead first rest)

abbrev pub these : List (Option (List ℕ)) → Inputs
these first = ahead first no_inputs

pub ahead_push : (first : List (Option (List ℕ))) (given : Option (List ℕ)) (rest : Inputs) → ahead (first ++ given ∷ []) rest ≡ ahead first (ahead (given ∷ []) rest)
ahead_push [] given rest = refl
ahead_push (g ∷ first) given rest = ap (behind_one g) (ahead_push first given rest)

-- ---- files that were read

-- no read failed, so none is blamed
abbrev pub nothing : Option (List ℕ) → Type 0
nothing which = ⊥

-- files that were read later in a call
pub later_reads : (told mid : Option Files) (failed other : Option (List ℕ) → Type 0) (names : List (List ℕ)) (inputs : Inputs) → mid ≡ told
    → ((which : Option (List ℕ)) → failed which → other which) → AreRead mid failed names inputs → AreRead told other names inputs
later_reads told mid failed other [] inputs same wider read = read
later_reads told mid failed other (name ∷ names) inputs same wider read =
    (later_read told mid failed other name (inputs 0) same wider read.0, later_reads told mid failed other names (rest_of inputs) same wider read.1)

-- files that need not be read
pub some_reads : (told : Option Files) (failed : Option (List ℕ) → Type 0) (names : List (List ℕ)) → (inputs : Inputs) × AreRead told failed names inputs
some_reads told failed [] = (no_inputs, λ i. refl)
some_reads told failed (name ∷ names) =
    let one = some_read told failed name in
    let rest = some_reads told failed names in
    (ahead (one.0 ∷ []) rest.0, (one.1, rest.1))

-- a name at a place is one of the names
pub at_among : (names : List (List ℕ)) (i : ℕ) (name : List ℕ) (rest : List (List ℕ)) → drop i names ≡ name ∷ rest → Among names name
at_among [] zero name rest is = absurd (let h : ◌≡◌ {A = List (List ℕ)} [] (name ∷ rest) = is in cc)
at_among [] (suc i) name rest is = absurd (let h : ◌≡◌ {A = List (List ℕ)} [] (name ∷ rest) = is in cc)
at_among (n ∷ names) zero name rest is = inl (let h : ◌≡◌ {A = List (List ℕ)} (n ∷ names) (name ∷ rest) = is in cc)
at_among (n ∷ names) (suc i) name rest is = inr (at_among names i name rest is)

-- ---- the first ones

-- the first files were read, and well
pub record Front (told : Option Files) (names : List (List ℕ)) (i : ℕ) : Type 0 where
  pub inputs : List (Option (List ℕ))
  pub read : AllZip (IsRead told nothing) (take i names) inputs

read_push : (told : Option Files) (names : List (List ℕ)) (inputs : List (Option (List ℕ))) (name : List ℕ) (given : Option (List ℕ))
    → AllZip (IsRead told nothing) names inputs → IsRead told nothing name given → AllZip (IsRead told nothing) (names ++ name ∷ []) (inputs ++ given ∷ [])
read_push told [] [] name given read one = (one, tt)
read_push told [] (g ∷ inputs) name given read one = absurd read
read_push told (n ∷ names) [] name given read one = absurd read
read_push told (n ∷ names) (g ∷ inputs) name given read one = (read.0, read_push told names inputs name given read.1 one)

read_ahead : (told : Option Files) (failed : Option (List ℕ) → Type 0) (names others : List (List ℕ)) (inputs : List (Option (List ℕ))) (rest : Inputs)
    → AllZip (IsRead told nothing) names inputs → AreRead told failed others rest → AreRead told failed (names ++ others) (ahead inputs rest)
read_ahead told failed [] others [] rest read read_rest = read_rest
read_ahead told failed [] others (g ∷ inputs) rest read read_rest = absurd read
read_ahead told failed (name ∷ names) others [] rest read read_rest = absurd read
read_ahead told failed (name ∷ names) others (g ∷ inputs) rest read read_rest =
    (later_read told told nothing failed name g refl (λ which none. absurd none) read.0, read_ahead told failed names others inputs rest read.1 read_rest)

module _ (told : Option Files) (names : List (List ℕ)) where
  abbrev pub no_front : Front told names 0
  no_front = record { inputs = []; read = tt }

  -- the file at a place, behind the first ones
  module _ (i : ℕ) (name : List ℕ) (lt : i < length names) (is : name ≡ get_or names i name) where
    pub from_place : drop i names ≡ name ∷ drop (i + 1) names
    from_place = drop_more names i name lt ∙ ap (λ (n : List ℕ). n ∷ drop (i + 1) names) (sym is)

    pub is_among : Among names name
    is_among = at_among names i name (drop (i + 1) names) from_place

    module _ (front : Front told names i) (given : Option (List ℕ)) where
      pub read_more : IsRead told nothing name given → AllZip (IsRead told nothing) (take (i + 1) names) (front.inputs ++ given ∷ [])
      read_more read =
          subst (λ (ns : List (List ℕ)). AllZip (IsRead told nothing) ns (front.inputs ++ given ∷ []))
          (sym (take_more names i name lt ∙ ap (λ (n : List ℕ). take i names ++ n ∷ []) (sym is)))
          (read_push told (take i names) front.inputs name given front.read read)

      abbrev pub front_more : IsRead told nothing name given → Front told names (i + 1)
      front_more read = record { inputs = front.inputs ++ given ∷ []; read = read_more read }

      -- all are read, where those behind it are
      pub read_on : (failed : Option (List ℕ) → Type 0) → IsRead told failed name given → (rest : Inputs) → AreRead told failed (drop (i + 1) names) rest
          → AreRead told failed names (ahead front.inputs (ahead (given ∷ []) rest))
      read_on failed read rest read_rest =
          subst (λ (ns : List (List ℕ)). AreRead told failed ns (ahead front.inputs (ahead (given ∷ []) rest)))
          (ap (λ (ns : List (List ℕ)). take i names ++ ns) (sym from_place) ∙ take-append-drop i names)
          (read_ahead told failed (take i names) (name ∷ drop (i + 1) names) front.inputs (ahead (given ∷ []) rest) front.read (read, read_rest))

  -- all files are read
  pub front_all : (failed : Option (List ℕ) → Type 0) (i : ℕ) → length names ≤ i → (front : Front told names i) → AreRead told failed names (these front.inputs)
  front_all failed i le front =
      subst (λ (ns : List (List ℕ)). AreRead told failed ns (these front.inputs)) (append-nil (take i names) ∙ take_all i names le)
      (read_ahead told failed (take i names) [] front.inputs no_inputs front.read (λ i. refl))
