-- What an entry is by its job alone, and what is read and counted of it.
use mir.Val.{bool_byte}
use Rattle.std.specs.Bool.{then_some}
use Rattle.std.specs.List.{filter_map, cons_option, count_by}
use Rattle.std.specs.Option.{option_map, option_map_or}
use Rattle.std.specs.Prelude.{ℤ, pos, All, IfSome, is_some, nat_le, slice_get, unwrap_or}
use Rattle.std.specs.Str.{bytes_eq}
use Rattle.std.proofs.Common.{map, subst, ◌≡◌, ℕ, ◌+◌, ◌<◌, List, [], ◌∷◌, ◌++◌, length, get_or, take, Bool, true, false, cond, ◌&&◌, Option, Some, None, refl, sym, ap, ◌∙◌, arith}
use Rattle.std.proofs.lemmas.Bool.{and_parts}
use Rattle.std.proofs.lemmas.List.{append-nil}
use Rattle.std.proofs.lemmas.List.Elements.{All-push, filter_map-append}
use Rattle.std.proofs.lemmas.List.Sums.{count_by_more_yes, count_by_more_no}
use Rattle.ident_core.specs.declared.identity.Identity.{Identity}
use Rattle.ident_core.specs.declared.range.Sighting.{Sighting}
use Rattle.ident_core.specs.declared.range.Range.{Range}
use Rattle.ident_core.specs.Coverage.{covers, is_within}
use Rattle.ident_core.specs.Sets.{has_key}
use Rattle.ident_core.proofs.Keys.{take_is}
use Rattle.ident_core.proofs.Sets.{bytes_same}
use Rattle.universe_core.specs.Jobs.{Entry}
use Rattle.universe_core.specs.History.{Past, class_by}
use Rattle.universe_core.specs.Ledgers.{no_ledger, past_in, parts_before, item_of}
use Rattle.universe_core.specs.Reading.{if_read, entry_fields, class_alone, one_if}
use Rattle.universe_core.specs.declared.class.Class.TheVariants.{Unread, Uncovered, Unenrolled, Late, Accepted}

-- without parts nothing is late
pub none_late : (x : Identity) (s : Sighting) → (past_in no_ledger).comes_late x s ≡ false
unfolding past_in parts_before item_of
none_late x s = refl

-- what an entry is, whatever the jobs before tell
module _ (ranges : List Range) (issuers : List (List ℕ)) (past : Past) where
  pub told_unread : Unread ≡ class_by ranges issuers past None
  unfolding class_by
  told_unread = refl

  pub told_uncovered : (e : Entry) → covers ranges e.sighting ≡ false → Uncovered ≡ class_by ranges issuers past (Some e)
  unfolding class_by
  told_uncovered e c = rw c refl

  pub told_unenrolled : (e : Entry) → covers ranges e.sighting ≡ true → has_key issuers e.id.issuer ≡ false → Unenrolled ≡ class_by ranges issuers past (Some e)
  unfolding class_by
  told_unenrolled e c n = rw (c, n) refl

  pub told_late : (e : Entry) → covers ranges e.sighting ≡ true → has_key issuers e.id.issuer ≡ true → past.comes_late e.id e.sighting ≡ true → Late ≡ class_by ranges issuers past (Some e)
  unfolding class_by
  told_late e c n l = rw (c, n, l) refl

  pub told_accepted : (e : Entry) → covers ranges e.sighting ≡ true → has_key issuers e.id.issuer ≡ true → past.comes_late e.id e.sighting ≡ false → Accepted ≡ class_by ranges issuers past (Some e)
  unfolding class_by
  told_accepted e c n l = rw (c, n, l) refl

module _ (ranges : List Range) (issuers : List (List ℕ)) where
  pub class_unread : Unread ≡ class_alone ranges issuers None
  class_unread = told_unread ranges issuers (past_in no_ledger)

  pub class_uncovered : (e : Entry) → covers ranges e.sighting ≡ false → Uncovered ≡ class_alone ranges issuers (Some e)
  class_uncovered e c = told_uncovered ranges issuers (past_in no_ledger) e c

  pub class_unenrolled : (e : Entry) → covers ranges e.sighting ≡ true → has_key issuers e.id.issuer ≡ false → Unenrolled ≡ class_alone ranges issuers (Some e)
  class_unenrolled e c n = told_unenrolled ranges issuers (past_in no_ledger) e c n

  pub class_accepted : (e : Entry) → covers ranges e.sighting ≡ true → has_key issuers e.id.issuer ≡ true → Accepted ≡ class_alone ranges issuers (Some e)
  class_accepted e c n = told_accepted ranges issuers (past_in no_ledger) e c n (none_late e.id e.sighting)

-- ---- one more

pub read_more : {A C : Type 0} (h : A → Option C) (xs : List A) (i : ℕ) (x : A) (old new : List C) (o : Option C) → i < length xs → x ≡ get_or xs i x
    → old ≡ filter_map h (take i xs) → o ≡ h x → new ≡ old ++ cons_option o [] → new ≡ filter_map h (take (i + 1) xs)
read_more h xs i x old new o l e a b c =
    c ∙ ap (λ z. z ++ cons_option o []) a ∙ ap (λ z. filter_map h (take i xs) ++ cons_option z []) b ∙ sym (ap (filter_map h) (take_is xs i x l e) ∙ filter_map-append h (take i xs) (x ∷ []))

pub count_more : {A : Type 0} (p : A → Bool) (xs : List A) (i : ℕ) (x : A) (n m : ℕ) (b : Bool) → i < length xs → x ≡ get_or xs i x
    → n ≡ count_by p (take i xs) → b ≡ p x → m ≡ n + one_if b → m ≡ count_by p (take (i + 1) xs)
count_more p xs i x n m true l e a b c = c ∙ ap (λ k. k + 1) a ∙ sym (count_by_more_yes p xs i x l (ap p (sym e) ∙ sym b))
count_more p xs i x n m false l e a b c = let k = count_by_more_no p xs i x l (ap p (sym e) ∙ sym b) in omega arith

pub one_is : (b : Bool) → bool_byte b ≡ one_if b
one_is true = refl
one_is false = refl

-- what is kept beside what was
pub kept_more : {A B : Type 0} (f : A → B) (old : List A) (o : Option A) (x : Option B) → option_map f o ≡ x → map f (old ++ cons_option o []) ≡ map f old ++ cons_option x []
kept_more f [] None x e = ap (λ z. cons_option z []) e
kept_more f [] (Some a) x e = ap (λ z. cons_option z []) e
kept_more f (b ∷ old) o x e = ap (λ z. f b ∷ z) (kept_more f old o x e)

pub kept_all : {A : Type 0} (P : A → Type 0) (old : List A) (o : Option A) → All P old → IfSome o P → All P (old ++ cons_option o [])
kept_all P old None a h = subst (All P) (sym (append-nil old)) a
kept_all P old (Some x) a h = All-push P old x a h

-- ---- what the places of a read entry stand for

log_of : (o : Option Range) (s : Sighting) → option_map (is_within s) o ≡ Some true → option_map_or (λ (r : Range). r.log) o [] ≡ s.log
log_of None s h = absurd cc
log_of (Some r) s h =
    let t : is_within s r ≡ true = cc in
    bytes_same r.log s.log (and_parts (bytes_eq r.log s.log) (nat_le r.from s.time) (and_parts (bytes_eq r.log s.log && nat_le r.from s.time) (nat_le s.time r.to) t).0).0

-- a date again from its number, which is 0 where there is none, and from whether there is one
pub date_again : (date : Option ℤ) {until : ℤ} {dated : Bool} → until ≡ unwrap_or date (pos 0) → dated ≡ is_some date → then_some dated until ≡ date
date_again None n d = rw d refl
date_again (Some t) n d = rw (n, d) refl

pub entry_is : (ranges : List Range) (issuers : List (List ℕ)) (e : Entry) (near place : ℕ) (until : ℤ) (dated : Bool)
    → option_map (is_within e.sighting) (slice_get ranges near) ≡ Some true → slice_get issuers place ≡ Some e.id.issuer → then_some dated until ≡ e.until
    → entry_fields issuers ranges (record { time = e.sighting.time; until = until; dated = dated; place = place; near = near; serial = e.id.serial }) ≡ e
entry_is ranges issuers e near place until dated r k date =
    let log = log_of (slice_get ranges near) e.sighting r in
    let issuer = ap (λ (o : Option (List ℕ)). unwrap_or o []) k in
    λ i. record { id = record { issuer = issuer i; serial = e.id.serial }; sighting = record { log = log i; time = e.sighting.time }; until = date i }

pub read_is : (ranges : List Range) (issuers : List (List ℕ)) (e : Entry) → covers ranges e.sighting ≡ true → has_key issuers e.id.issuer ≡ true → Some e ≡ if_read ranges issuers (Some e)
read_is ranges issuers e c n = rw (c, n) refl

pub not_covered : (ranges : List Range) (issuers : List (List ℕ)) (e : Entry) → covers ranges e.sighting ≡ false → None ≡ if_read ranges issuers (Some e)
not_covered ranges issuers e c = rw c refl

pub not_enrolled : (ranges : List Range) (issuers : List (List ℕ)) (e : Entry) → has_key issuers e.id.issuer ≡ false → None ≡ if_read ranges issuers (Some e)
not_enrolled ranges issuers e n = by (covers ranges e.sighting)
  where
    by : (b : Bool) → None ≡ cond (b && has_key issuers e.id.issuer) (Some e) None
    by true = rw n refl
    by false = refl
