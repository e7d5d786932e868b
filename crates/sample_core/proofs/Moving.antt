-- What one move after another leaves.
use Rattle.std.proofs.Common.{◌≡◌, ℕ, ◌+◌, ◌-◌, ◌<◌, inl, inr, ◌⊎◌, List, [], ◌∷◌, ◌++◌, take, drop, length, Option, Result, Ok, Err, refl, sym, ap, subst, ◌∙◌}
use Rattle.std.proofs.Common.{append_assoc, append-nil, arith, length-append}
use Rattle.std.specs.Prelude.{OnOk, OnErr}
use Rattle.std.proofs.lemmas.List.{take-append-le, take-append-drop}
use Rattle.std.proofs.Math.Seq.{take-append_seam, take-append-add}
use Rattle.outside_core.specs.Files.{Files, putting, extending, appending, Torn, KeepsOthers}
use Rattle.outside_core.proofs.Appending.{extending-twice, appending-extending, extending-putting, Torn-putting, Torn-front, KeepsOthers-same, KeepsOthers-putting, KeepsOthers-extending}
use Rattle.job_core.specs.JobText.{entry_record}
use Rattle.sample_core.specs.Sample.{entry, sample_text}
use Rattle.sample_core.specs.Parts.{head_text, entries_text}
use Rattle.sample_core.proofs.Texts.{entries-none, entries-more, entries-from, sample-parts}
use Rattle.sample_core.specs.Writing.{Moved, IsCut}

pub Moved-none : (told : Option Files) (name held : List ℕ) → Moved told told name held [] held
Moved-none told name held = record { sent = []; files = refl; whole = append-nil held }

pub Moved-then : (old mid new : Option Files) (name a x b y c : List ℕ) → Moved old mid name a x b → Moved mid new name b y c → Moved old new name a (x ++ y) c
Moved-then old mid new name a x b y c first second = record {
  sent = first.sent ++ second.sent;
  files =
      second.files ∙ ap (λ (t : Option Files). extending t name second.sent) first.files ∙ extending-twice old name first.sent second.sent;
  whole =
      sym (append_assoc a x y)
      ∙ ap (λ (l : List ℕ). l ++ y) first.whole
      ∙ append_assoc first.sent b y
      ∙ ap (λ (l : List ℕ). first.sent ++ l) second.whole
      ∙ sym (append_assoc first.sent second.sent c);
}

-- what a cut text leaves is also left by a cut text that is longer
pub Torn-longer : (old new : Option Files) (name xs ys : List ℕ) → Torn old new name xs → Torn old new name (xs ++ ys)
Torn-longer old new name xs ys (inl same) = inl same
Torn-longer old new name xs ys (inr (k, le, after)) =
    inr (k, omega (arith, length-append xs ys), after ∙ ap (λ (l : List ℕ). appending old name l) (sym (take-append-le k xs ys le)))

-- a text that was cut behind one that is whole
pub Torn-behind : (old mid new : Option Files) (name xs ys : List ℕ) → mid ≡ extending old name xs → Torn mid new name ys → Torn old new name (xs ++ ys)
Torn-behind old mid new name xs ys before (inl same) =
    Torn-front old new name (xs ++ ys) (length xs) (omega (arith, length-append xs ys))
    (same ∙ before ∙ ap (λ (l : List ℕ). extending old name l) (sym (take-append_seam xs ys)))
Torn-behind old mid new name xs ys before (inr (k, le, after)) =
    inr (
      length xs + k,
      omega (arith, length-append xs ys),
      after
          ∙ ap (λ (t : Option Files). appending t name (take k ys)) before
          ∙ appending-extending old name xs (take k ys)
          ∙ ap (λ (l : List ℕ). appending old name l) (sym (take-append-add xs ys k)),
    )

pub Torn-then : (old mid new : Option Files) (name a x b y : List ℕ) → Moved old mid name a x b → Torn mid new name (b ++ y) → Torn old new name (a ++ (x ++ y))
Torn-then old mid new name a x b y first torn =
    let same : a ++ (x ++ y) ≡ first.sent ++ (b ++ y) = sym (append_assoc a x y) ∙ ap (λ (l : List ℕ). l ++ y) first.whole ∙ append_assoc first.sent b y in
    subst (λ (l : List ℕ). Torn old new name l) (sym same) (Torn-behind old mid new name first.sent (b ++ y) first.files torn)

pub KeepsOthers-Moved : (old new : Option Files) (name a x b : List ℕ) → Moved old new name a x b → KeepsOthers old new name
KeepsOthers-Moved old new name a x b moved = KeepsOthers-extending old new name moved.sent moved.files

pub Torn-full : (old new : Option Files) (name held bytes full : List ℕ) (room : ℕ) → full ≡ held ++ take room bytes → Torn old new name full → Torn old new name (held ++ bytes)
Torn-full old new name held bytes full room is torn =
    let same : full ++ drop room bytes ≡ held ++ bytes =
    ap (λ (l : List ℕ). l ++ drop room bytes) is ∙ append_assoc held (take room bytes) (drop room bytes) ∙ ap (λ (l : List ℕ). held ++ l) (take-append-drop room bytes) in
    subst (λ (l : List ℕ). Torn old new name l) same (Torn-longer old new name full (drop room bytes) torn)

-- the end of a text that went through a buffer
pub Moved-whole : (old mid new : Option Files) (name a x b : List ℕ) → Moved old mid name a x b → new ≡ extending mid name b → new ≡ extending old name (a ++ x)
Moved-whole old mid new name a x b moved last =
    last ∙ ap (λ (t : Option Files). extending t name b) moved.files ∙ extending-twice old name moved.sent b ∙ ap (λ (l : List ℕ). extending old name l) (sym moved.whole)

-- a file that was begun and then got a text, or a front of it

pub begun-whole : (old mid new : Option Files) (name text : List ℕ) → mid ≡ putting old name [] → new ≡ extending mid name text → new ≡ putting old name text
begun-whole old mid new name text begun whole = whole ∙ ap (λ (t : Option Files). extending t name text) begun ∙ extending-putting old name text

pub begun-cut : (old mid new : Option Files) (name text : List ℕ) → mid ≡ putting old name [] → Torn mid new name text → IsCut old new name text
begun-cut old mid new name text begun torn = inr (Torn-putting old new name text (subst (λ (t : Option Files). Torn t new name text) begun torn))

-- a file that could not be begun
pub begin-keeps : (old new : Option Files) (name : List ℕ) → (new ≡ old) ⊎ (new ≡ putting old name []) → KeepsOthers old new name
begin-keeps old new name (inl same) = KeepsOthers-same old new name same
begin-keeps old new name (inr begun) = KeepsOthers-putting old new name [] begun

-- ---- entries that went through a buffer

pub entries-unmoved : (told : Option Files) (name held : List ℕ) (number : ℕ) → Moved told told name held (entries_text number 0) held
entries-unmoved told name held number = subst (λ (l : List ℕ). Moved told told name held l held) (sym (entries-none number)) (Moved-none told name held)

pub entries-moved : (old mid new : Option Files) (name a b bytes c : List ℕ) (number i : ℕ) → bytes ≡ entry_record (entry number i)
    → Moved old mid name a (entries_text number i) b → Moved mid new name b bytes c → Moved old new name a (entries_text number (i + 1)) c
entries-moved old mid new name a b bytes c number i is first second =
    subst (λ (l : List ℕ). Moved old new name a l c) (ap (λ (l : List ℕ). entries_text number i ++ l) is ∙ sym (entries-more number i))
    (Moved-then old mid new name a (entries_text number i) b bytes c first second)

pub entries-torn : (old mid new : Option Files) (name a b bytes : List ℕ) (number i count : ℕ) → i < count → bytes ≡ entry_record (entry number i)
    → Moved old mid name a (entries_text number i) b → Torn mid new name (b ++ bytes) → Torn old new name (a ++ entries_text number count)
entries-torn old mid new name a b bytes number i count lt is first torn =
    let rest = entries-from number (i + 1) (count - (i + 1)) in
    let e : i + 1 + (count - (i + 1)) ≡ count = omega arith in
    let one : entries_text number i ++ bytes ≡ entries_text number (i + 1) = ap (λ (l : List ℕ). entries_text number i ++ l) is ∙ sym (entries-more number i) in
    let all : (a ++ (entries_text number i ++ bytes)) ++ rest.0 ≡ a ++ entries_text number count =
    ap (λ (l : List ℕ). (a ++ l) ++ rest.0) one
    ∙ append_assoc a (entries_text number (i + 1)) rest.0
    ∙ ap (λ (l : List ℕ). a ++ l) (sym rest.1 ∙ ap (entries_text number) e) in
    subst (λ (l : List ℕ). Torn old new name l) all
    (Torn-longer old new name (a ++ (entries_text number i ++ bytes)) rest.0 (Torn-then old mid new name a (entries_text number i) b bytes first torn))

-- ---- the whole text: a front as it stands, and the rest through a buffer

-- the text, of a front and what the buffer held, the entries and the end
parts : (number count : ℕ) (front held : List ℕ) → front ++ held ≡ head_text number count → front ++ (held ++ (entries_text number count ++ 0 ∷ [])) ≡ sample_text number count
parts number count front held is =
    sym (append_assoc front held (entries_text number count ++ 0 ∷ []))
    ∙ ap (λ (l : List ℕ). l ++ (entries_text number count ++ 0 ∷ [])) is
    ∙ sym (append_assoc (head_text number count) (entries_text number count) (0 ∷ []))
    ∙ sym (sample-parts number count)

pub whole-written : (old t1 t2 t3 new : Option Files) (name front held b c : List ℕ) (number count : ℕ) → front ++ held ≡ head_text number count
    → t1 ≡ extending old name front → Moved t1 t2 name held (entries_text number count) b → Moved t2 t3 name b (0 ∷ []) c → new ≡ extending t3 name c
    → new ≡ extending old name (sample_text number count)
whole-written old t1 t2 t3 new name front held b c number count is first entries end last =
    Moved-whole t1 t3 new name held (entries_text number count ++ 0 ∷ []) c (Moved-then t1 t2 t3 name held (entries_text number count) b (0 ∷ []) c entries end) last
    ∙ ap (λ (t : Option Files). extending t name (held ++ (entries_text number count ++ 0 ∷ []))) first
    ∙ extending-twice old name front (held ++ (entries_text number count ++ 0 ∷ []))
    ∙ ap (λ (l : List ℕ). extending old name l) (parts number count front held is)

-- the front was cut
pub front-torn : (old new : Option Files) (name front held : List ℕ) (number count : ℕ) → front ++ held ≡ head_text number count
    → Torn old new name front → Torn old new name (sample_text number count)
front-torn old new name front held number count is torn =
    subst (λ (l : List ℕ). Torn old new name l) (parts number count front held is)
    (Torn-longer old new name front (held ++ (entries_text number count ++ 0 ∷ [])) torn)

behind-front : (old t1 new : Option Files) (name front held : List ℕ) (number count : ℕ) → front ++ held ≡ head_text number count
    → t1 ≡ extending old name front → Torn t1 new name (held ++ (entries_text number count ++ 0 ∷ [])) → Torn old new name (sample_text number count)
behind-front old t1 new name front held number count is first torn =
    subst (λ (l : List ℕ). Torn old new name l) (parts number count front held is)
    (Torn-behind old t1 new name front (held ++ (entries_text number count ++ 0 ∷ [])) first torn)

-- the entries were cut
pub middle-torn : (old t1 new : Option Files) (name front held : List ℕ) (number count : ℕ) → front ++ held ≡ head_text number count
    → t1 ≡ extending old name front → Torn t1 new name (held ++ entries_text number count) → Torn old new name (sample_text number count)
middle-torn old t1 new name front held number count is first torn =
    behind-front old t1 new name front held number count is first
    (subst (λ (l : List ℕ). Torn t1 new name l) (append_assoc held (entries_text number count) (0 ∷ []))
    (Torn-longer t1 new name (held ++ entries_text number count) (0 ∷ []) torn))

-- the end was cut
pub end-torn : (old t1 t2 new : Option Files) (name front held b : List ℕ) (number count : ℕ) → front ++ held ≡ head_text number count
    → t1 ≡ extending old name front → Moved t1 t2 name held (entries_text number count) b → Torn t2 new name (b ++ 0 ∷ []) → Torn old new name (sample_text number count)
end-torn old t1 t2 new name front held b number count is first entries torn =
    behind-front old t1 new name front held number count is first (Torn-then t1 t2 new name held (entries_text number count) b (0 ∷ []) entries torn)

-- what the buffer held at the end was cut
pub rest-torn : (old t1 t2 t3 new : Option Files) (name front held b c : List ℕ) (number count : ℕ) → front ++ held ≡ head_text number count
    → t1 ≡ extending old name front → Moved t1 t2 name held (entries_text number count) b → Moved t2 t3 name b (0 ∷ []) c → Torn t3 new name c
    → Torn old new name (sample_text number count)
rest-torn old t1 t2 t3 new name front held b c number count is first entries end torn =
    let all = Moved-then t1 t2 t3 name held (entries_text number count) b (0 ∷ []) c entries end in
    behind-front old t1 new name front held number count is first
    (subst (λ (l : List ℕ). Torn t1 new name l) (sym all.whole) (Torn-behind t1 t3 new name all.sent c all.files torn))

-- ---- clauses of a result

pub on-ok : {X E : Type 0} (r : Result X E) (P Q : Type 0) → (P → Q) → OnOk r P → OnOk r Q
on-ok (Ok x) P Q f p = f p
on-ok (Err e) P Q f p = p

pub on-err : {X E : Type 0} (r : Result X E) (P Q : Type 0) → (P → Q) → OnErr r P → OnErr r Q
on-err (Ok x) P Q f p = p
on-err (Err e) P Q f p = f p
