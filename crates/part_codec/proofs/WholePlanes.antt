-- A field that came whole in a piece, as a plane does.
use Rattle.std.proofs.Common.{true, ◌≡◌, ℕ, zero, suc, ◌+◌, ◌-◌, ◌*◌, ◌≤◌, ◌<◌, Bool, false, List, [], ◌++◌, length, take, drop, Err, refl, subst, sym, ap, ◌∙◌, arith, length-append, inl, inr}
use Rattle.std.specs.Prelude.{◌⊎◌}
use Rattle.std.specs.Int.{w8, from_be_bytes}
use Rattle.std.proofs.lemmas.List.{drop_at, drop-drop, take_rest, length-take-le}
use Rattle.octets_core.specs.Reading.{fault_at}
use Rattle.octets_core.specs.declared.fault.Why.{Why}
use Rattle.octets_core.specs.declared.fault.Why.TheVariants as why
use Rattle.octets_core.proofs.Texts.{IsBytes}
use Rattle.equation_core.specs.Sizes.{words_for}
use Rattle.part_text.specs.PartLayout.{sealed}
use Rattle.part_codec.specs.declared.fields.Kept.{Kept}
use Rattle.part_codec.specs.declared.fields.Open.{Open}
use Rattle.part_codec.specs.declared.fields.Open.TheVariants as opens
use Rattle.part_codec.specs.declared.machine.Machine.{Machine}
use Rattle.part_codec.specs.declared.machine.TheConstants.{MAX_PART}
use Rattle.part_codec.specs.Remaining.{Seen, kept_mode}
use Rattle.part_codec.specs.Stepping.{in_front, leads_on, skips, tail_of, width_of, passes_last, is_padded_last, kept_after, open_after, seen_after, name_of, open_approx, open_plane, open_block, open_mode, settled, AreLimits, still}
use Rattle.part_codec.specs.Scanning.{Opened, IsWhole, Stands, Passes, Moved}
use Rattle.part_codec.proofs.FieldSteps.{width-parts, room-steps, front-goes, wrong-front}
use Rattle.part_codec.specs.Taking.{IsPartial, Advances}
use Rattle.part_codec.proofs.MachineStands.{Opened-more, field-fails, field-goes, passes-of, moved-of, bytes-front}

-- ---- it is the open field, of which nothing came before

pub whole-now : (m : Machine) (s : Seen) (b t : List ℕ) → Stands m s b → m.passed ≡ 0 → m.filled ≡ 0 → length t ≡ width_of m.field m.kept → IsWhole m (drop (skips m.field m.kept) t) (b ++ t)
whole-now m s b t st passed empty len = record {
  len = omega (arith, st.place, passed, empty, len, length-append b t);
  held = sym (drop-drop (skips m.field m.kept) m.at (b ++ t)) ∙ ap (drop (skips m.field m.kept)) (drop_at b t m.at (omega (arith, st.place, passed, empty)));
}

pub whole-fails : (m : Machine) (s : Seen) (b t x : List ℕ) → Stands m s b → IsBytes t → m.passed ≡ 0 → m.filled ≡ 0 → length t ≡ width_of m.field m.kept → in_front m.field ≡ true
    → ((sum : List ℕ) → passes_last m.field m.kept sum (drop (skips m.field m.kept) t) ≡ false) → sealed (b ++ t ++ x) 0 ≡ Err (fault_at why.Value (name_of m.field) m.at)
whole-fails m s b t x st fits passed empty len front failed =
    field-fails m s (drop (skips m.field m.kept) t) (b ++ t) x (Opened-more m s b t fits st.opens) (whole-now m s b t st passed empty len) (front-goes m.field front) (failed _)
    ∙ ap (λ (y : Why). Err (fault_at y (name_of m.field) m.at)) (wrong-front m.field front)

-- it passed, and the next one is open
pub record Goes (m n : Machine) (t : List ℕ) : Type 0 where
  pub passes : (sum : List ℕ) → passes_last m.field m.kept sum (drop (skips m.field m.kept) t) ≡ true
  pub limits : AreLimits m.field (drop (skips m.field m.kept) t)
  pub kept : n.kept ≡ kept_after m.field m.kept (drop (skips m.field m.kept) t)
  pub field : n.field ≡ open_after m.field n.kept
  pub at : n.at ≡ m.at + length t
  pub passed : n.passed ≡ 0
  pub empty : n.filled ≡ 0

pub whole-stands : (m n : Machine) (s : Seen) (b t : List ℕ) → Stands m s b → IsBytes t → m.passed ≡ 0 → m.filled ≡ 0 → length t ≡ width_of m.field m.kept → Goes m n t
    → Stands n (seen_after m.field m.kept s (drop m.at (b ++ t))) (b ++ t)
whole-stands m n s b t st fits passed empty len g =
    field-goes m n s (drop (skips m.field m.kept) t) (b ++ t) (Opened-more m s b t fits st.opens) (whole-now m s b t st passed empty len) g.limits (g.passes _) g.kept g.field
    (omega (arith, g.at, st.place, passed, empty, length-append b t)) g.passed g.empty

pub whole-passes : (m n : Machine) (s : Seen) (b t : List ℕ) → length t ≡ width_of m.field m.kept → Goes m n t → Opened m s b → IsWhole m (drop (skips m.field m.kept) t) b → Passes m n b
whole-passes m n s b t len g o w = passes-of m n s (drop (skips m.field m.kept) t) b o w g.limits (g.passes _) g.kept (omega (arith, g.at, w.len, len))

pub whole-moved : (m n : Machine) (s : Seen) (b t : List ℕ) → Stands m s b → IsBytes t → m.passed ≡ 0 → m.filled ≡ 0 → length t ≡ width_of m.field m.kept → Goes m n t
    → n.field ≡ settled n.field → Moved true m n (b ++ t)
whole-moved m n s b t st fits passed empty len g settles =
    moved-of m n n (b ++ t) (whole-passes m n s (b ++ t) t len g (Opened-more m s b t fits st.opens) (whole-now m s b t st passed empty len)) g.field settles refl refl

pub whole-room : (m : Machine) (k : Kept) (o : Open) (t last : List ℕ) → AreLimits m.field last → k ≡ kept_after m.field m.kept last → o ≡ open_after m.field k
    → length t ≡ width_of m.field m.kept → m.at + length t + still o k ≤ MAX_PART
whole-room m k o t last limits kept next len =
    rw (next, kept) (omega (arith, room-steps m.field m.kept last limits m.starts, width-parts m.field m.kept m.starts, len, m.room))

-- all of its bytes are held where it has no more
pub alone-goes : (m n : Machine) (t : List ℕ) → skips m.field m.kept ≡ 0 → ((sum : List ℕ) → passes_last m.field m.kept sum t ≡ true) → AreLimits m.field t
    → n.kept ≡ kept_after m.field m.kept t → n.field ≡ open_after m.field n.kept → n.at ≡ m.at + length t → n.passed ≡ 0 → n.filled ≡ 0 → Goes m n t
alone-goes m n t none passes limits kept field at passed empty =
    record { passes = λ sum. rw none (passes sum); limits = rw none limits; kept = rw none kept; field = field; at = at; passed = passed; empty = empty }

pub alone-width : (m : Machine) (t : List ℕ) → skips m.field m.kept ≡ 0 → length t ≡ tail_of m.field → length t ≡ width_of m.field m.kept
alone-width m t none len = omega (arith, width-parts m.field m.kept m.starts, none, len)

-- it is the front of a piece
pub whole-advances : (m n : Machine) (piece : List ℕ) (k : ℕ) → IsBytes piece → k ≤ length piece → 0 < k → m.passed ≡ 0 → m.filled ≡ 0
    → length (take k piece) ≡ width_of m.field m.kept → Goes m n (take k piece) → n.field ≡ settled n.field → IsPartial n → Advances m n piece (k, true)
whole-advances m n piece k bytes within some passed empty len goes settles partial = record {
  stands = λ s b st. whole-stands m n s b (take k piece) st (bytes-front k piece bytes) passed empty len goes;
  moved = λ s b st. whole-moved m n s b (take k piece) st (bytes-front k piece bytes) passed empty len goes settles;
  partial = partial;
  count = within;
  progress = λ more. some;
}

-- ---- it is no plane, and one that has a byte comes behind it

pub leads-alone : (o : Open) (k : Kept) → leads_on o ≡ true → skips o k ≡ 0
leads-alone opens.BlockIssuer k leads = refl
leads-alone opens.BlockK k leads = refl
leads-alone opens.ApproxSeed k leads = refl
leads-alone opens.ApproxStarts k leads = refl
leads-alone opens.ExactSeed k leads = refl
leads-alone opens.ExactStarts k leads = refl
leads-alone o k leads = absurd cc

approx-leads : (n : ℕ) → (settled (open_approx n) ≡ open_approx n) × (0 < tail_of (open_approx n))
approx-leads zero = (refl, omega arith)
approx-leads (suc n) = (refl, omega arith)

plane-leads : (n : ℕ) → (settled (open_plane n) ≡ open_plane n) × (0 < tail_of (open_plane n))
plane-leads zero = (refl, omega arith)
plane-leads (suc n) = (refl, omega arith)

pub leads-next : (o : Open) (k : Kept) → leads_on o ≡ true → (settled (open_after o k) ≡ open_after o k) × (0 < tail_of (open_after o k))
leads-next opens.BlockIssuer k leads = (refl, omega arith)
leads-next opens.BlockK k leads = approx-leads k.planes
leads-next opens.ApproxSeed k leads = (refl, omega arith)
leads-next opens.ApproxStarts k leads = plane-leads k.planes
leads-next opens.ExactSeed k leads = (refl, omega arith)
leads-next opens.ExactStarts k leads = (refl, omega arith)
leads-next o k leads = absurd cc

-- ---- it is the issuer or the mode of a block

more-settles : (n : ℕ) → 1 ≤ n → (settled (open_block n) ≡ open_block n) × (0 < tail_of (open_block n))
more-settles zero some = absurd (omega (arith, some))
more-settles (suc n) some = (refl, omega arith)

-- the field behind the mode of a block has a byte, if another block is left or this one says more than none or all
mode-leads : (mode : ℕ) (k : Kept) → (mode ≤ 1 → 2 ≤ k.left)
    → (settled (open_mode (kept_mode mode k).mode (kept_mode mode k).leaves (kept_mode mode k).left) ≡ open_mode (kept_mode mode k).mode (kept_mode mode k).leaves (kept_mode mode k).left)
    × (0 < tail_of (open_mode (kept_mode mode k).mode (kept_mode mode k).leaves (kept_mode mode k).left))
mode-leads zero k more = more-settles (k.left - 1) (omega (arith, more (omega arith)))
mode-leads (suc zero) k more = more-settles (k.left - 1) (omega (arith, more (omega arith)))
mode-leads (suc (suc zero)) k more = (refl, omega arith)
mode-leads (suc (suc (suc n))) k more = (refl, omega arith)

pub field-settles : (n : Machine) (o : Open) → settled o ≡ o → n.field ≡ o → n.field ≡ settled n.field
field-settles n o same is = is ∙ sym same ∙ ap settled (sym is)

pub field-partial : (n : Machine) (o : Open) → 0 < tail_of o → n.field ≡ o → n.filled ≡ 0 → IsPartial n
field-partial n o some is empty = λ goes. omega (arith, some, ap tail_of is, empty)

pub mode-advances : (m n : Machine) (piece : List ℕ) → IsBytes piece → 1 ≤ length piece → m.field ≡ opens.BlockMode → m.filled ≡ 0
    → ((sum : List ℕ) → passes_last opens.BlockMode m.kept sum (take 1 piece) ≡ true) → (from_be_bytes w8 (take 1 piece) ≤ 1 → 2 ≤ m.kept.left)
    → n.kept ≡ kept_after m.field m.kept (take 1 piece) → n.field ≡ open_after m.field n.kept → n.at ≡ m.at + m.passed + length (take 1 piece) → n.passed ≡ 0 → n.filled ≡ 0
    → Advances m n piece (1, true)
mode-advances m n piece bytes within is empty passes more kept next at passed none =
    let t : List ℕ = take 1 piece in
    let alone : skips m.field m.kept ≡ 0 = ap (λ (o : Open). skips o m.kept) is in
    let fresh : m.passed ≡ 0 = omega (arith, m.before, alone) in
    let k : Kept = kept_mode (from_be_bytes w8 t) m.kept in
    let after : Open = open_mode k.mode k.leaves k.left in
    let same : n.kept ≡ k = kept ∙ ap (λ (o : Open). kept_after o m.kept t) is in
    let opened : n.field ≡ after = next ∙ ap (λ (o : Open). open_after o n.kept) is ∙ ap (λ (x : Kept). open_mode x.mode x.leaves x.left) same in
    let follows = mode-leads (from_be_bytes w8 t) m.kept more in
    let len : length t ≡ tail_of m.field = length-take-le 1 piece within ∙ sym (ap tail_of is) in
    let goes : Goes m n t =
    alone-goes m n t alone (λ sum. ap (λ (o : Open). passes_last o m.kept sum t) is ∙ passes sum) (subst (λ (o : Open). AreLimits o t) (sym is) tt) kept next (omega (arith, at, fresh)) passed none in
    whole-advances m n piece 1 bytes within (omega arith) fresh empty (alone-width m t alone len) goes (field-settles n after follows.0 opened) (field-partial n after follows.1 opened none)

-- ---- it is a plane

abbrev pub IsPlane : Open → Type 0
IsPlane o = (o ≡ opens.ApproxPlane) ⊎ (o ≡ opens.ExactPlane)

pub plane-width : (m : Machine) (t : List ℕ) → IsPlane m.field → length t ≡ 8 * words_for m.kept.starts → length t ≡ width_of m.field m.kept
plane-width m t (inl is) len = len ∙ sym (ap (λ (o : Open). width_of o m.kept) is)
plane-width m t (inr is) len = len ∙ sym (ap (λ (o : Open). width_of o m.kept) is)

plane-skips : (m : Machine) → IsPlane m.field → skips m.field m.kept ≡ 8 * (words_for m.kept.starts - 1)
plane-skips m (inl is) = ap (λ (o : Open). skips o m.kept) is
plane-skips m (inr is) = ap (λ (o : Open). skips o m.kept) is

plane-passes : (m : Machine) (sum p : List ℕ) → IsPlane m.field → passes_last m.field m.kept sum p ≡ is_padded_last m.kept.starts p
plane-passes m sum p (inl is) = ap (λ (o : Open). passes_last o m.kept sum p) is
plane-passes m sum p (inr is) = ap (λ (o : Open). passes_last o m.kept sum p) is

-- its last word is tested
pub plane-tested : (m : Machine) (t : List ℕ) (answer : Bool) → IsPlane m.field → length t ≡ 8 * words_for m.kept.starts
    → is_padded_last m.kept.starts (take (length t - (length t - 8)) (drop (length t - 8) t)) ≡ answer
    → (sum : List ℕ) → passes_last m.field m.kept sum (drop (skips m.field m.kept) t) ≡ answer
plane-tested m t answer is len tested sum =
    let place : skips m.field m.kept ≡ length t - 8 = omega (arith, plane-skips m is, len, m.starts.0) in
    plane-passes m sum (drop (skips m.field m.kept) t) is
    ∙ ap (λ (n : ℕ). is_padded_last m.kept.starts (drop n t)) place
    ∙ ap (is_padded_last m.kept.starts) (sym (take_rest t (length t - 8)))
    ∙ tested

-- ---- it is an approximate plane

pub one-plane-goes : (m n : Machine) (t : List ℕ) → m.field ≡ opens.ApproxPlane → length t ≡ 8 * words_for m.kept.starts → is_padded_last m.kept.starts (drop (length t - 8) t) ≡ true
    → n.kept ≡ record m.kept { planes = m.kept.planes - 1 } → n.field ≡ open_plane n.kept.planes → n.at ≡ m.at + length t → n.passed ≡ 0 → n.filled ≡ 0 → Goes m n t
one-plane-goes m n t is len padded kept field at passed empty = record {
  passes = plane-tested m t true (inl is) len (ap (is_padded_last m.kept.starts) (take_rest t (length t - 8)) ∙ padded);
  limits = subst (λ (o : Open). AreLimits o (drop (skips m.field m.kept) t)) (sym is) tt;
  kept = kept ∙ sym (ap (λ (o : Open). kept_after o m.kept (drop (skips m.field m.kept) t)) is);
  field = field ∙ sym (ap (λ (o : Open). open_after o n.kept) is);
  at = at;
  passed = passed;
  empty = empty;
}

pub more-planes : (n : ℕ) → 1 ≤ n → open_plane n ≡ opens.ApproxPlane
more-planes zero some = absurd (omega (arith, some))
more-planes (suc n) some = refl

-- where another one follows, a machine behind one
pub record Behind (m : Machine) (t : List ℕ) : Type 0 where
  pub next : Machine
  pub kept : next.kept ≡ record m.kept { planes = m.kept.planes - 1 }
  pub field : next.field ≡ opens.ApproxPlane
  pub at : next.at ≡ m.at + length t
  pub passed : next.passed ≡ 0
  pub empty : next.filled ≡ 0

pub one-behind : (m : Machine) (t : List ℕ) → m.field ≡ opens.ApproxPlane → 2 ≤ m.kept.planes → length t ≡ 8 * words_for m.kept.starts → Behind m t
one-behind m t is more len =
    let kept : Kept = record m.kept { planes = m.kept.planes - 1 } in
    let limits : AreLimits m.field [] = subst (λ (o : Open). AreLimits o []) (sym is) tt in
    let next : opens.ApproxPlane ≡ open_after m.field kept = sym (ap (λ (o : Open). open_after o kept) is ∙ more-planes (m.kept.planes - 1) (omega (arith, more))) in
    record {
      next = record {
        field = opens.ApproxPlane;
        kept = kept;
        held = m.held;
        filled = 0;
        passed = 0;
        at = m.at + length t;
        few = omega arith;
        before = omega arith;
        order = λ some. absurd (omega (arith, some));
        starts = m.starts;
        room = omega (arith, whole-room m kept opens.ApproxPlane t [] limits (sym (ap (λ (o : Open). kept_after o m.kept []) is)) next (plane-width m t (inl is) len));
      };
      kept = refl;
      field = refl;
      at = refl;
      passed = refl;
      empty = refl;
    }
