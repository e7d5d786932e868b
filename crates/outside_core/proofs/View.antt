-- What a read of a depot in memory answers, and what it leaves of the calls.
use Rattle.std.proofs.Common.{◌≡◌, ℕ, ◌-◌, min, List, length, Bool, true, false, ◌&&◌, cond, Option, None, Some, is_some, refl, sym, ap, ◌∙◌}
use Rattle.std.specs.Option.{option_map}
use Rattle.std.specs.FinMap.{get}
use Rattle.outside_core.specs.Calls.{CallsView, is_failing, one_made, one_failed, after_call}
use Rattle.outside_core.specs.View.{DepotView, read_count, read_fails}

either_way : (b : Bool) (o : Option ℕ) → o ≡ cond b o o
either_way true o = refl
either_way false o = refl

never : (b : Bool) → (b && false) ≡ false
never true = refl
never false = refl

-- none, at a name that isn't held
pub read_count-missing : (depot : DepotView) (name : List ℕ) (at room : ℕ) → get depot.files name ≡ None → None ≡ read_count depot name at room
read_count-missing depot name at room none =
    either_way (is_failing depot.reads) None
    ∙ ap (λ (o : Option (List ℕ)). cond (is_failing depot.reads) None (option_map (λ bytes. min room (length bytes - at)) o)) (sym none)

-- the count, where the read doesn't fail
pub read_count-held : (depot : DepotView) (name bytes : List ℕ) (at room n : ℕ) → get depot.files name ≡ Some bytes → is_failing depot.reads ≡ false
    → n ≡ min room (length bytes - at) → Some n ≡ read_count depot name at room
read_count-held depot name bytes at room n held goes is =
    ap Some is
    ∙ ap (λ (o : Option (List ℕ)). option_map (λ held. min room (length held - at)) o) (sym held)
    ∙ ap (λ (b : Bool). cond b None (option_map (λ held. min room (length held - at)) (get depot.files name))) (sym goes)

-- what is left of the calls, at a name that isn't held
pub reads-missing : (depot : DepotView) (name : List ℕ) (now : CallsView) → get depot.files name ≡ None → now ≡ one_made depot.reads
    → now ≡ after_call (read_fails depot name) depot.reads
reads-missing depot name now none is =
    is ∙ ap (λ (b : Bool). after_call b depot.reads) (sym (never (is_failing depot.reads)) ∙ ap (λ (o : Option (List ℕ)). is_failing depot.reads && is_some o) (sym none))

-- what is left of the calls where the read fails
pub reads-failed : (depot : DepotView) (name : List ℕ) (now : CallsView) → is_some (get depot.files name) ≡ true → is_failing depot.reads ≡ true
    → now ≡ one_failed (one_made depot.reads) → now ≡ after_call (read_fails depot name) depot.reads
reads-failed depot name now held fails is =
    is ∙ ap (λ (b : Bool). after_call b depot.reads)
    (ap (λ (b : Bool). true && b) (sym held) ∙ ap (λ (b : Bool). b && is_some (get depot.files name)) (sym fails))
