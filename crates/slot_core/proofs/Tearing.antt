-- What stays of a device that a crash may tear.
use Rattle.std.proofs.Common.{◌≡◌, ◌⊎◌, inl, inr, ⊎_elim, ℕ, ◌+◌, ◌≤◌, ◌%◌, Bool, true, false, not, nat_eq, List, [], ◌∷◌, length, get_or, take, drop, refl, sym, ap, ◌∙◌, subst, arith}
use Rattle.std.proofs.Common.{length-take, length-drop}
use Rattle.std.specs.Int.{w64, to_be_bytes}
use Rattle.std.proofs.lemmas.List.{take-take, drop-take, take_all}
use Rattle.slot_core.specs.Disk.{Torn, Written, piece}
use Rattle.slot_core.specs.Device.{StandsAt, IsHeader, IsSlot, IsDevice, picks_second, slot_at}
use Rattle.slot_core.specs.Fields.{WritesSlot}
use Rattle.slot_core.specs.declared.device.TheConstants.{MAX_CAPACITY}
use Rattle.slot_core.specs.Attached.{IsEither}
use Rattle.slot_core.proofs.Torn.{piece-torn, get_or-piece}

pub stands-long : (at n : ℕ) (device : List ℕ) → StandsAt at n device → at + 8 ≤ length device
stands-long at n device is = omega (arith, ap length is, length-take 8 (drop at device), length-drop at device)

pub header-long : (capacity : ℕ) (device : List ℕ) → IsHeader capacity device → 18 ≤ length device
header-long capacity device header = stands-long 10 capacity device header.stands

slot-long : (at capacity : ℕ) (bytes device : List ℕ) → IsSlot at capacity bytes device → at + 8 + length bytes ≤ length device
slot-long at capacity bytes device slot =
    omega (arith, stands-long at (length bytes) device slot.stands, ap length slot.held, length-take (length bytes) (drop (at + 8) device), length-drop (at + 8) device)

-- a write outside the header
header-torn : (at n capacity : ℕ) (old new : List ℕ) → Torn at n old new → (18 ≤ at) ⊎ (at + n ≤ 1) → IsHeader capacity old → IsHeader capacity new
header-torn at n capacity old new torn apart header =
    let there = header-long capacity old header in
    record {
      mark = piece-torn at n 1 8 old new torn (omega arith) (⊎_elim (λ behind. inl (omega arith)) (λ before. inr before) apart) ∙ header.mark;
      version = piece-torn at n 9 1 old new torn (omega arith) (⊎_elim (λ behind. inl (omega arith)) (λ before. inr (omega arith)) apart) ∙ header.version;
      stands = piece-torn at n 10 8 old new torn (omega arith) (⊎_elim (λ behind. inl (omega arith)) (λ before. inr (omega arith)) apart) ∙ header.stands;
      low = header.low;
      high = header.high;
    }

-- a write outside a slot's bytes
slot-torn : (at n place capacity : ℕ) (bytes old new : List ℕ) → Torn at n old new → (place + 8 + length bytes ≤ at) ⊎ (at + n ≤ place)
    → IsSlot place capacity bytes old → IsSlot place capacity bytes new
slot-torn at n place capacity bytes old new torn apart slot =
    let there = slot-long place capacity bytes old slot in
    record {
      within = slot.within;
      stands = piece-torn at n place 8 old new torn (omega arith) (⊎_elim (λ behind. inl (omega arith)) (λ before. inr before) apart) ∙ slot.stands;
      held = piece-torn at n (place + 8) (length bytes) old new torn there (⊎_elim (λ behind. inl behind) (λ before. inr (omega arith)) apart) ∙ slot.held;
    }

-- a write behind the gate
picks-torn : (at n : ℕ) (old new : List ℕ) → Torn at n old new → 1 ≤ at → 1 ≤ length old → picks_second new ≡ picks_second old
picks-torn at n old new torn behind there = ap (λ (gate : ℕ). nat_eq (gate % 2) 1) (torn.elsewhere 0 there (inl behind))

-- the two slots don't meet
apart-slots : (capacity n m : ℕ) (second : Bool) → n ≤ capacity → m ≤ capacity
    → (slot_at capacity second + 8 + n ≤ slot_at capacity (not second)) ⊎ (slot_at capacity (not second) + (8 + m) ≤ slot_at capacity second)
apart-slots capacity n m true few some = inr (omega arith)
apart-slots capacity n m false few some = inl (omega arith)

pub slot-low : (capacity : ℕ) (second : Bool) → 4096 ≤ slot_at capacity second
slot-low capacity true = omega arith
slot-low capacity false = omega arith

-- a write of the slot that isn't picked
pub device-torn : (capacity : ℕ) (second : Bool) (held bytes old new : List ℕ) → length bytes ≤ capacity → second ≡ picks_second old → Torn (slot_at capacity (not second)) (8 + length bytes) old new
    → IsDevice capacity held old → IsDevice capacity held new × (second ≡ picks_second new)
device-torn capacity second held bytes old new fits picks torn device =
    let at = slot_at capacity (not second) in
    let low = slot-low capacity (not second) in
    let there = header-long capacity old device.header in
    let same : picks_second new ≡ picks_second old = picks-torn at (8 + length bytes) old new torn (omega (arith, low)) (omega arith) in
    let stands : IsSlot (slot_at capacity second) capacity held old = subst (λ (s : Bool). IsSlot (slot_at capacity s) capacity held old) (sym picks) device.slot in
    let stays = slot-torn at (8 + length bytes) (slot_at capacity second) capacity held old new torn (apart-slots capacity (length held) (length bytes) second stands.within fits) stands in (
      record {
        header = header-torn at (8 + length bytes) capacity old new torn (inl (omega (arith, low))) device.header;
        slot = subst (λ (s : Bool). IsSlot (slot_at capacity s) capacity held new) (picks ∙ sym same) stays;
      },
      picks ∙ sym same,
    )

-- both slots hold bytes, and the gate picks one
pub record IsStaged (capacity : ℕ) (second : Bool) (held bytes device : List ℕ) : Type 0 where
  pub header : IsHeader capacity device
  pub old : IsSlot (slot_at capacity second) capacity held device
  pub new : IsSlot (slot_at capacity (not second)) capacity bytes device

pub staged : (capacity : ℕ) (second : Bool) (held bytes before after : List ℕ) → length bytes ≤ capacity → second ≡ picks_second before → IsDevice capacity held before
    → WritesSlot (slot_at capacity (not second)) bytes before after → IsStaged capacity second held bytes after
staged capacity second held bytes before after fits picks device writes =
    let stays = device-torn capacity second held bytes before after fits picks writes.torn device in
    record {
      header = stays.0.header;
      old = subst (λ (s : Bool). IsSlot (slot_at capacity s) capacity held after) (sym stays.1) stays.0.slot;
      new = record { within = fits; stands = writes.stands; held = writes.held };
    }

one_or_other : (a b : Bool) → (a ≡ b) ⊎ (a ≡ not b)
one_or_other true true = inl refl
one_or_other true false = inr refl
one_or_other false true = inr refl
one_or_other false false = inl refl

-- any gate picks one of the two
pub gate-torn : (capacity : ℕ) (second : Bool) (held bytes device image : List ℕ) → IsStaged capacity second held bytes device → Torn 0 1 device image → IsStaged capacity second held bytes image
gate-torn capacity second held bytes device image is torn =
    let low = slot-low capacity second in
    let lower = slot-low capacity (not second) in
    record {
      header = header-torn 0 1 capacity device image torn (inr (omega arith)) is.header;
      old = slot-torn 0 1 (slot_at capacity second) capacity held device image torn (inr (omega (arith, low))) is.old;
      new = slot-torn 0 1 (slot_at capacity (not second)) capacity bytes device image torn (inr (omega (arith, lower))) is.new;
    }

pub either : (capacity : ℕ) (second : Bool) (held bytes image : List ℕ) → IsStaged capacity second held bytes image → IsEither capacity held bytes image
either capacity second held bytes image is = elim (one_or_other (picks_second image) second) [
  | inl same ↦ inl (record { header = is.header; slot = subst (λ (s : Bool). IsSlot (slot_at capacity s) capacity held image) (sym same) is.old })
  | inr other ↦ inr (record { header = is.header; slot = subst (λ (s : Bool). IsSlot (slot_at capacity s) capacity bytes image) (sym other) is.new })
]

-- the gate that was written picks the new one
pub turned : (capacity : ℕ) (second : Bool) (held bytes device after : List ℕ) (gate : ℕ)
    → IsStaged capacity second held bytes device → Written 0 (gate ∷ []) device after → nat_eq (gate % 2) 1 ≡ not second
    → IsDevice capacity bytes after × (not second ≡ picks_second after)
turned capacity second held bytes device after gate is written picks =
    let now = gate-torn capacity second held bytes device after is written.torn in
    let there : get_or after 0 0 ≡ gate = sym (get_or-piece 0 1 after 0 (omega arith)) ∙ ap (λ (l : List ℕ). get_or l 0 0) written.range in
    let picked : picks_second after ≡ not second = ap (λ (g : ℕ). nat_eq (g % 2) 1) there ∙ picks in
    (record { header = now.header; slot = subst (λ (s : Bool). IsSlot (slot_at capacity s) capacity bytes after) (sym picked) now.new }, sym picked)

-- the fields that the first ten bytes hold
head-fields : (device head : List ℕ) → piece 0 10 device ≡ head → (piece 1 8 device ≡ take 8 (drop 1 head)) × (piece 9 1 device ≡ take 1 (drop 9 head)) × (get_or device 0 0 ≡ get_or head 0 0)
head-fields device head is = (
  sym (take-take 8 9 (drop 1 device) (omega arith)) ∙ ap (take 8) (sym (drop-take 1 9 device) ∙ ap (drop 1) is),
  sym (drop-take 9 1 device) ∙ ap (drop 9) is ∙ last head (ap length (sym is)),
  sym (get_or-piece 0 10 device 0 (omega arith)) ∙ ap (λ (l : List ℕ). get_or l 0 0) is,
)
  where
    last : (head : List ℕ) → length head ≡ length (piece 0 10 device) → drop 9 head ≡ take 1 (drop 9 head)
    last head long = sym (take_all 1 (drop 9 head) (omega (arith, long, length-take 10 device, length-drop 9 head)))

-- a device that was written from its front on
pub formatted : (capacity : ℕ) (store before one two after : List ℕ) → 1 ≤ capacity → capacity ≤ MAX_CAPACITY → length store ≤ capacity
    → Written 0 (0 ∷ 0x43 ∷ 0x4c ∷ 0x55 ∷ 0x42 ∷ 0x53 ∷ 0x4c ∷ 0x4f ∷ 0x54 ∷ 1 ∷ []) before one → Written 10 (to_be_bytes w64 capacity) one two → WritesSlot 4096 store two after
    → IsDevice capacity store after × (get_or after 0 0 ≡ 0)
formatted capacity store before one two after low high fits a b c =
    let ten : 10 ≤ length one = omega (arith, ap length a.range, length-take 10 one) in
    let more : 18 ≤ length two = stands-long 10 capacity two b.range in
    let head_two = piece-torn 10 8 0 10 one two b.torn ten (inl (omega arith)) ∙ a.range in
    let head_after = piece-torn 4096 (8 + length store) 0 10 two after c.torn (omega arith) (inl (omega arith)) ∙ head_two in
    let fields = head-fields after _ head_after in
    let first : picks_second after ≡ false = ap (λ (g : ℕ). nat_eq (g % 2) 1) fields.2 in (
      record {
        header = record {
          mark = fields.0;
          version = fields.1;
          stands = piece-torn 4096 (8 + length store) 10 8 two after c.torn more (inl (omega arith)) ∙ b.range;
          low = low;
          high = high;
        };
        slot = subst (λ (s : Bool). IsSlot (slot_at capacity s) capacity store after) (sym first) (record { within = fits; stands = c.stands; held = c.held });
      },
      fields.2,
    )
