-- Outputs that are written one after the other, and what is left of the other files.
use Rattle.std.proofs.Common.{◌≡◌, ℕ, suc, ◌+◌, ◌<◌, inl, inr, List, [], ◌∷◌, ◌++◌, map, take, drop, get_or, length, append_assoc, Option, Some, None, Result}
use Rattle.std.proofs.Common.{Ok, Err, refl, sym, ap, subst, ◌∙◌, arith}
use Rattle.std.specs.Prelude.{OnOk, OnErr}
use Rattle.std.proofs.lemmas.List.{take-append-drop, take_more}
use Rattle.outside_core.specs.Files.{Files, putting, extending, Torn}
use Rattle.outside_core.specs.declared.depot.Failed.{Failed}
use Rattle.outside_core.proofs.Appending.{extending-twice}
use Rattle.sample_core.proofs.Moving.{Torn-behind}
use Rattle.command_core.proofs.Files.{get-other, extending-putting, Torn-putting}
use Rattle.command_core.specs.ReplyFields.{OutputFields}
use Rattle.command_core.specs.Runs.{with_outputs, IsLeft, IsTorn, KeepsAllBut}

-- ---- what is kept

abbrev pub names_of : List OutputFields → List (List ℕ)
names_of outputs = map (λ (o : OutputFields). o.name) outputs

pub keeps-same : (names : List (List ℕ)) (told : Option Files) → KeepsAllBut names told told
keeps-same names None = refl
keeps-same names (Some files) = (files, refl, λ name other. refl)

-- a write to a name keeps all but it
keeps-put : (name bytes : List ℕ) (names : List (List ℕ)) (told after : Option Files) → KeepsAllBut names (putting told name bytes) after → KeepsAllBut (name ∷ names) told after
keeps-put name bytes names None after keeps = keeps
keeps-put name bytes names (Some files) after (later, is, same) =
    (later, is, λ other differ. same other (λ k d lt. differ (suc k) d (omega arith)) ∙ get-other files name bytes other (differ 0 name (omega arith)))

pub keeps-written : (told : Option Files) (outputs : List OutputFields) → KeepsAllBut (names_of outputs) told (with_outputs told outputs)
keeps-written told [] = keeps-same [] told
keeps-written told (o ∷ outputs) = keeps-put o.name o.bytes (names_of outputs) told (with_outputs told (o ∷ outputs)) (keeps-written (putting told o.name o.bytes) outputs)

keeps-left : (told new : Option Files) (o : OutputFields) (names : List (List ℕ)) → IsLeft told new o → KeepsAllBut (o.name ∷ names) told new
keeps-left told new o names (inl same) = rw same (keeps-same (o.name ∷ names) told)
keeps-left told new o names (inr (k, le, after)) =
    rw after (keeps-put o.name (take k o.bytes) names told (putting told o.name (take k o.bytes)) (keeps-same names (putting told o.name (take k o.bytes))))

pub keeps-torn : (told new : Option Files) (outputs : List OutputFields) (name : List ℕ) → IsTorn told new outputs name → KeepsAllBut (names_of outputs) told new
keeps-torn told new [] name torn = absurd torn
keeps-torn told new (o ∷ outputs) name (inl (is, left)) = keeps-left told new o (names_of outputs) left
keeps-torn told new (o ∷ outputs) name (inr torn) = keeps-put o.name o.bytes (names_of outputs) told new (keeps-torn (putting told o.name o.bytes) new outputs name torn)

-- ---- one output after another

pub with_outputs-then : (told : Option Files) (first then : List OutputFields) → with_outputs told (first ++ then) ≡ with_outputs (with_outputs told first) then
with_outputs-then told [] then = refl
with_outputs-then told (o ∷ first) then = with_outputs-then (putting told o.name o.bytes) first then

-- the outputs up to one are written, and then it
pub written-more : (told mid new : Option Files) (outputs : List OutputFields) (i : ℕ) (o : OutputFields) → i < length outputs → o ≡ get_or outputs i o
    → mid ≡ with_outputs told (take i outputs) → new ≡ putting mid o.name o.bytes → new ≡ with_outputs told (take (i + 1) outputs)
written-more told mid new outputs i o lt is before one =
    one ∙ ap (λ (t : Option Files). putting t o.name o.bytes) before
    ∙ sym (with_outputs-then told (take i outputs) (o ∷ []))
    ∙ ap (λ (p : OutputFields). with_outputs told (take i outputs ++ p ∷ [])) is
    ∙ ap (with_outputs told) (sym (take_more outputs i o lt))

torn-behind : (told new : Option Files) (first then : List OutputFields) (name : List ℕ) → IsTorn (with_outputs told first) new then name → IsTorn told new (first ++ then) name
torn-behind told new [] then name torn = torn
torn-behind told new (o ∷ first) then name torn = inr (torn-behind (putting told o.name o.bytes) new first then name torn)

-- the outputs up to one are written, and it is left in the middle
pub torn-at : (told mid new : Option Files) (outputs : List OutputFields) (i : ℕ) (o : OutputFields) → i < length outputs → o ≡ get_or outputs i o
    → mid ≡ with_outputs told (take i outputs) → IsLeft mid new o → IsTorn told new outputs o.name
torn-at told mid new outputs i o lt is before left =
    subst (λ (os : List OutputFields). IsTorn told new os o.name)
    (sym (append_assoc (take i outputs) (o ∷ []) (drop (i + 1) outputs))
    ∙ ap (λ (p : OutputFields). (take i outputs ++ p ∷ []) ++ drop (i + 1) outputs) is
    ∙ ap (λ (os : List OutputFields). os ++ drop (i + 1) outputs) (sym (take_more outputs i o lt))
    ∙ take-append-drop (i + 1) outputs)
    (torn-behind told new (take i outputs) (o ∷ drop (i + 1) outputs) o.name (inl (refl, subst (λ (t : Option Files). IsLeft t new o) before left)))

-- where nothing is to be written, nothing is torn and nothing changes
pub none-torn : (told new : Option Files) (outputs : List OutputFields) (name : List ℕ) → outputs ≡ [] → IsTorn told new outputs name → ⊥
none-torn told new [] name is torn = torn
none-torn told new (o ∷ outputs) name is torn = cc

pub none-written : (told : Option Files) (outputs : List OutputFields) → outputs ≡ [] → with_outputs told outputs ≡ told
none-written told [] is = refl
none-written told (o ∷ outputs) is = absurd cc

-- ---- one output

-- it was begun, and then all its bytes came
pub written-whole : (told mid new : Option Files) (name bytes : List ℕ) (r : Result (Unit {0}) Failed) → mid ≡ putting told name [] → OnOk r (new ≡ extending mid name bytes)
    → OnOk r (new ≡ putting told name bytes)
written-whole told mid new name bytes (Ok x) begun all = all ∙ ap (λ (t : Option Files). extending t name bytes) begun ∙ extending-putting told name bytes
written-whole told mid new name bytes (Err e) begun all = tt

-- it was begun, and then some of its bytes came
pub left-torn : (told mid new : Option Files) (o : OutputFields) (r : Result (Unit {0}) Failed) → mid ≡ putting told o.name [] → OnErr r (Torn mid new o.name o.bytes)
    → OnErr r (IsLeft told new o)
left-torn told mid new o (Ok x) begun torn = tt
left-torn told mid new o (Err e) begun torn = inr (Torn-putting told new o.name o.bytes (subst (λ (t : Option Files). Torn t new o.name o.bytes) begun torn))

-- ---- a text and its digest

-- the text is there, and its digest was written behind it
extending-digested : (told mid new : Option Files) (name text digest sum : List ℕ) (r : Result (Unit {0}) Failed) → mid ≡ extending told name text → digest ≡ sum
    → OnOk r (new ≡ extending mid name digest) → OnOk r (new ≡ extending told name (text ++ sum))
extending-digested told mid new name text digest sum (Ok x) before drawn all =
    all ∙ ap (λ (t : Option Files). extending t name digest) before ∙ extending-twice told name text digest ∙ ap (λ (d : List ℕ). extending told name (text ++ d)) drawn
extending-digested told mid new name text digest sum (Err e) before drawn all = tt

-- the text is there, and the write of its digest behind it failed
torn-digested : (told mid new : Option Files) (name text digest sum : List ℕ) (r : Result (Unit {0}) Failed) → mid ≡ extending told name text → digest ≡ sum
    → OnErr r (Torn mid new name digest) → OnErr r (Torn told new name (text ++ sum))
torn-digested told mid new name text digest sum (Ok x) before drawn torn = tt
torn-digested told mid new name text digest sum (Err e) before drawn torn =
    subst (λ (d : List ℕ). Torn told new name (text ++ d)) drawn (Torn-behind told mid new name text digest before torn)

-- the same of a file that was begun
module _ (told mid new : Option Files) (name text digest sum : List ℕ) (r : Result (Unit {0}) Failed) (put : mid ≡ putting told name text) (drawn : digest ≡ sum) where
  begun : mid ≡ extending (putting told name []) name text
  begun = put ∙ sym (extending-putting told name text)

  pub put-digested : OnOk r (new ≡ extending mid name digest) → OnOk r (new ≡ putting told name (text ++ sum))
  put-digested all =
      written-whole told (putting told name []) new name (text ++ sum) r refl (extending-digested (putting told name []) mid new name text digest sum r begun drawn all)

  pub left-digested : OnErr r (Torn mid new name digest) → OnErr r (IsLeft told new (record { name = name; bytes = text ++ sum }))
  left-digested torn =
      left-torn told (putting told name []) new (record { name = name; bytes = text ++ sum }) r refl
      (torn-digested (putting told name []) mid new name text digest sum r begun drawn torn)
