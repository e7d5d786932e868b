-- The leaves of groups as a list.
use Rattle.std.specs.Prelude.{ℕ, zero, suc, List, [], ◌∷◌, ◌++◌, length, map, true, false, Bool, not}
use Rattle.std.proofs.Common.{◌≡◌, ◌<◌, ◌≤◌, ◌+◌, ◌-◌, ◌*◌, ◌^◌, filter, drop, take, get_or, sym, ap, ◌∙◌, arith, nat_le, cond, zero-add}
use Rattle.std.specs.List.{flat_map, range_with_len}
use Rattle.std.proofs.lemmas.List.{append-nil, append_assoc, drop_at, drop_more, get_or_append_left, length-append, length-map, map-append, take_more}
use Rattle.std.proofs.Math.Nat.{pow-le-pow_right}
use Rattle.std.proofs.lemmas.List.Concat.{flat_map-append}
use Rattle.std.proofs.lemmas.List.FromFn.{map-range_with_len_more, length-range_with_len, get_or-map-range_with_len}
use Rattle.card_core.specs.Leaf.{flagged}
use Rattle.card_core.specs.Filter.{greatest_shift, shift_for}
use Rattle.ident_core.specs.declared.identity.Identity.{Identity}
use Rattle.stage_core.proofs.Flags.{flagged_count, flagged_lengths}
use Rattle.universe_core.specs.declared.admitted.Group.{Group}
use Rattle.universe_core.specs.Groups.{GroupFields, group_fields}
use Rattle.builder_core.specs.declared.format.Format.{Format}
use Rattle.builder_core.specs.declared.format.Format.TheVariants.{Plain, Sharded}
use Rattle.builder_core.specs.declared.task.Cut.{Cut}
use Rattle.builder_core.specs.declared.task.Task.{Task}
use Rattle.builder_core.specs.Building.{shift_in}
use Rattle.builder_core.specs.Tasks.{TaskFields, task_fields, tasks_by, tasks_of_cut, tasks_of, tasks_in}

abbrev pub task_at : Format → GroupFields → ℕ → TaskFields
task_at format g j = record { group = g; shift = shift_in format g; shard = j }

length_by : (shift : ℕ) (g : GroupFields) → length (tasks_by shift g) ≡ 2 ^ shift
length_by shift g = length-map (range_with_len 0 (2 ^ shift)) (λ j. record { group = g; shift = shift; shard = j }) ∙ length-range_with_len 0 (2 ^ shift)

module _ (format : Format) (g : GroupFields) (later : List GroupFields) where
  -- what is left of a group's leaves begins with the next
  pub next_task : (j : ℕ) → j < 2 ^ shift_in format g
      → drop j (tasks_in format (g ∷ later)) ≡ task_at format g j ∷ drop (j + 1) (tasks_in format (g ∷ later))
  next_task j lt =
      let t : TaskFields = task_at format g j in
      let all : List TaskFields = tasks_of format g in
      let here : j < length all = omega (arith, lt, length_by (shift_in format g) g) in
      let within : j < length (all ++ tasks_in format later) = omega (arith, here, length-append all (tasks_in format later)) in
      let at : get_or (all ++ tasks_in format later) j t ≡ t =
      get_or_append_left all (tasks_in format later) t j here
      ∙ get_or-map-range_with_len (task_at format g) 0 (2 ^ shift_in format g) j j t lt (zero-add j) in
      drop_more (all ++ tasks_in format later) j t within ∙ ap (λ (x : TaskFields). x ∷ drop (j + 1) (all ++ tasks_in format later)) at

  -- behind them come those of the groups behind
  pub past_tasks : (n : ℕ) → n ≡ 2 ^ shift_in format g → drop n (tasks_in format (g ∷ later)) ≡ tasks_in format later
  past_tasks n e = drop_at (tasks_of format g) (tasks_in format later) n (length_by (shift_in format g) g ∙ sym e)

-- ---- how far a group is cut

-- by how many identities it has and how many flags are set
pub shift_is : (xs : List Identity) (fs : List Bool) (all set : ℕ) → length fs ≡ length xs → all ≡ length xs → set ≡ length (filter (λ f. f) fs)
    → shift_for set (all - set) ≡ shift_for (length (flagged xs fs)) (length (flagged xs (map not fs)))
shift_is xs fs all set same e f =
    let few : length fs ≤ length xs = omega (arith, same) in
    let one : set ≡ length (flagged xs fs) = f ∙ sym (flagged_count xs fs few) in
    let other : all - set ≡ length (flagged xs (map not fs)) = omega (arith, one, e, flagged_lengths xs fs same) in
    λ i. shift_for (one i) (other i)

-- ---- one group more

module _ {X A : Type 0} (f : X → List A) where
  flat_map_behind : (xs ys : List X) (x : X) → ys ≡ xs ++ (x ∷ []) → flat_map f ys ≡ flat_map f xs ++ f x
  flat_map_behind xs ys x e = ap (flat_map f) e ∙ flat_map-append f xs (x ∷ []) ∙ ap (λ (l : List A). flat_map f xs ++ l) (append-nil (f x))

pub cut_more : (format : Format) (groups : List Group) (i : ℕ) (g : Group) (cuts more : List Cut) (c : Cut) → i < length groups → g ≡ get_or groups i g
    → flat_map tasks_of_cut cuts ≡ tasks_in format (map group_fields (take i groups)) → tasks_of_cut c ≡ tasks_of format (group_fields g) → more ≡ cuts ++ (c ∷ [])
    → flat_map tasks_of_cut more ≡ tasks_in format (map group_fields (take (i + 1) groups))
cut_more format groups i g cuts more c lt is so_far one e =
    let taken : map group_fields (take (i + 1) groups) ≡ map group_fields (take i groups) ++ (group_fields g ∷ []) =
    ap (map group_fields) (take_more groups i g lt ∙ ap (λ (x : Group). take i groups ++ (x ∷ [])) (sym is)) ∙ map-append group_fields (take i groups) (g ∷ []) in
    flat_map_behind tasks_of_cut cuts more c e
    ∙ ap (λ (l : List TaskFields). l ++ tasks_of_cut c) so_far
    ∙ ap (λ (l : List TaskFields). tasks_in format (map group_fields (take i groups)) ++ l) one
    ∙ sym (flat_map_behind (tasks_of format) (map group_fields (take i groups)) (map group_fields (take (i + 1) groups)) (group_fields g) taken)

-- ---- how many there are

greatest_step : (s n : ℕ) (b : Bool) → greatest_shift s n ≤ s → cond b (suc s) (greatest_shift s n) ≤ suc s
greatest_step s n true h = omega arith
greatest_step s n false h = omega (arith, h)

greatest_few : (s n : ℕ) → greatest_shift s n ≤ s
greatest_few zero n = omega arith
greatest_few (suc s) n = greatest_step s n (nat_le (2 ^ suc s * 16384) n) (greatest_few s n)

shift_few : (revoked others : ℕ) → shift_for revoked others ≤ 8
shift_few zero others = omega arith
shift_few (suc revoked) zero = omega arith
shift_few (suc revoked) (suc others) = greatest_few 8 (suc revoked + suc others)

-- no group is cut by more than 8 bits
pub cut_few : (format : Format) (g : GroupFields) → shift_in format g ≤ 8
cut_few Plain g = omega arith
cut_few Sharded g = shift_few (length (flagged g.universe g.revoked)) (length (flagged g.universe (map not g.revoked)))

two_pow_le : (i j : ℕ) → i ≤ j → 2 ^ i ≤ 2 ^ j
two_pow_le i j le = pow-le-pow_right (omega arith) le

few_each : (shift : ℕ) (g : GroupFields) → shift ≤ 8 → length (tasks_by shift g) ≤ 256
few_each shift g few = omega (arith, length_by shift g, two_pow_le shift 8 few)

pub tasks_few : (format : Format) (groups : List GroupFields) → length (tasks_in format groups) ≤ length groups * 256
tasks_few format [] = omega arith
tasks_few format (g ∷ groups) =
    omega (arith, length-append (tasks_of format g) (tasks_in format groups), few_each (shift_in format g) g (cut_few format g), tasks_few format groups)

pub tasks_fit : (format : Format) (groups : List Group) (tasks : List Task) (all : List TaskFields) → map task_fields tasks ≡ all → all ≡ tasks_in format (map group_fields groups)
    → length groups ≤ 65535 → length tasks ≤ 16776960
tasks_fit format groups tasks all e f few =
    omega (arith, length-map tasks task_fields, ap length e, ap length f, tasks_few format (map group_fields groups), length-map groups group_fields, few)

-- ---- one leaf more of a group

pub task_more : (shift j : ℕ) (g : GroupFields) (t : Task) (start old new : List Task) → task_fields t ≡ record { group = g; shift = shift; shard = j }
    → map task_fields old ≡ map task_fields start ++ map (λ i. record { group = g; shift = shift; shard = i }) (range_with_len 0 j) → new ≡ old ++ (t ∷ [])
    → map task_fields new ≡ map task_fields start ++ map (λ i. record { group = g; shift = shift; shard = i }) (range_with_len 0 (j + 1))
task_more shift j g t start old new is so_far one =
    let f : ℕ → TaskFields = λ i. record { group = g; shift = shift; shard = i } in
    ap (map task_fields) one ∙ map-append task_fields old (t ∷ [])
    ∙ ap (λ (l : List TaskFields). l ++ (task_fields t ∷ [])) so_far
    ∙ append_assoc (map task_fields start) (map f (range_with_len 0 j)) (task_fields t ∷ [])
    ∙ ap (λ (l : List TaskFields). map task_fields start ++ l) (ap (λ (x : TaskFields). map f (range_with_len 0 j) ++ (x ∷ [])) is ∙ sym (map-range_with_len_more f 0 j j (zero-add j)))
