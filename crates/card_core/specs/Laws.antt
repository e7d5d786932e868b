-- What holds of every filter.
use Rattle.std.specs.Prelude.{◌≡◌, ◌<◌, ◌⊎◌, ℕ, Bool, true, false, List, length, slice_index_or, Contains}
use Rattle.ident_core.specs.declared.identity.Identity.{Identity}
use Rattle.equation_core.specs.Rows.{Rows}
use Rattle.card_core.specs.declared.block.Block.{Block}
use Rattle.card_core.specs.declared.leaf.Leaf.{Leaf}
use Rattle.card_core.specs.Leaf.{IsLeaf, IsStageRefused, is_leaf_positive}
use Rattle.card_core.specs.Filter.{Filter, IsBlock, IsBlockRefused, IsFilter, IsRefusedIn, IsRefusedShard, as_body}
use Rattle.card_core.specs.Filter.{is_filtered, is_positive}

-- each universe and its revoked part have a leaf, or a stage is refused
abbrev pub LeafOrRefusal : Type 0
LeafOrRefusal = (rows : Rows) (revoked others : List Identity)
    → ((leaf : Leaf) × IsLeaf rows revoked others leaf) ⊎ ((stage : ℕ) × IsStageRefused rows revoked others stage)

-- and a filter, however far it is cut, or a stage is refused for it
abbrev pub FilterOrRefusal : Type 0
FilterOrRefusal = (rows : Rows) (shift : ℕ) (revoked others : List Identity)
    → ((f : Filter) × IsFilter rows shift revoked others f) ⊎ ((stage : ℕ) × IsRefusedIn rows shift revoked others stage)

-- a test is positive for the revoked, and not for the others
abbrev pub IsExactOn : List Identity → List Identity → (Identity → Bool) → Type 0
IsExactOn revoked others test =
    ((x : Identity) → Contains revoked x → test x ≡ true) × ((x : Identity) → Contains others x → test x ≡ false)

abbrev pub LeafIsExact : Type 0
LeafIsExact = (rows : Rows) (revoked others : List Identity) (leaf : Leaf)
    → IsLeaf rows revoked others leaf → IsExactOn revoked others (λ x. is_leaf_positive rows x leaf)

abbrev pub LeafIsUnique : Type 0
LeafIsUnique =
    (rows : Rows) (revoked others : List Identity) (a b : Leaf) → IsLeaf rows revoked others a
    → IsLeaf rows revoked others b → a ≡ b

-- where a stage is refused there is no leaf
abbrev pub RefusedHasNoLeaf : Type 0
RefusedHasNoLeaf = (rows : Rows) (revoked others : List Identity) (stage : ℕ) (leaf : Leaf)
    → IsStageRefused rows revoked others stage → IsLeaf rows revoked others leaf → ⊥

-- only one stage is refused
abbrev pub OneStageIsRefused : Type 0
OneStageIsRefused = (rows : Rows) (revoked others : List Identity) (stage other : ℕ)
    → IsStageRefused rows revoked others stage → IsStageRefused rows revoked others other → stage ≡ other

abbrev pub FilterIsExact : Type 0
FilterIsExact = (rows : Rows) (shift : ℕ) (revoked others : List Identity) (f : Filter)
    → IsFilter rows shift revoked others f → IsExactOn revoked others (λ x. is_filtered rows x f)

abbrev pub FilterIsUnique : Type 0
FilterIsUnique = (rows : Rows) (shift : ℕ) (revoked others : List Identity) (a b : Filter)
    → IsFilter rows shift revoked others a → IsFilter rows shift revoked others b → a ≡ b

-- where a shard is refused there is no filter
abbrev pub RefusedHasNoFilter : Type 0
RefusedHasNoFilter = (rows : Rows) (shift : ℕ) (revoked others : List Identity) (stage : ℕ) (f : Filter)
    → IsRefusedIn rows shift revoked others stage → IsFilter rows shift revoked others f → ⊥

-- only one shard is the first that is refused
abbrev pub OneShardIsRefused : Type 0
OneShardIsRefused = (rows : Rows) (shift : ℕ) (revoked others : List Identity) (stage other : ℕ)
    → (a : IsRefusedShard rows shift revoked others stage) (b : IsRefusedShard rows shift revoked others other) → a.place ≡ b.place

-- and only one stage refuses the filter
abbrev pub OneStageRefusesFilter : Type 0
OneStageRefusesFilter = (rows : Rows) (shift : ℕ) (revoked others : List Identity) (stage other : ℕ)
    → IsRefusedIn rows shift revoked others stage → IsRefusedIn rows shift revoked others other → stage ≡ other

abbrev pub BodyIsOfOneLeaf : Type 0
BodyIsOfOneLeaf = (a b : Leaf) → as_body a ≡ as_body b → a ≡ b

-- the test of each identity of the universe is its flag
abbrev pub BlockIsExact : Type 0
BlockIsExact =
    (rows : Rows) (shift : ℕ) (issuer : List ℕ) (universe : List Identity) (flags : List Bool) (block : Block)
    → length flags ≡ length universe → IsBlock rows shift issuer universe flags block
    → (i : ℕ) (x : Identity) → i < length universe
    → is_positive rows (slice_index_or universe i x) block.body ≡ slice_index_or flags i false

abbrev pub BlockIsUnique : Type 0
BlockIsUnique = (rows : Rows) (shift : ℕ) (issuer : List ℕ) (universe : List Identity) (flags : List Bool) (a b : Block)
    → IsBlock rows shift issuer universe flags a → IsBlock rows shift issuer universe flags b → a ≡ b

-- where a stage is refused there is no block
abbrev pub RefusedHasNoBlock : Type 0
RefusedHasNoBlock = (rows : Rows) (shift : ℕ) (issuer : List ℕ) (universe : List Identity) (flags : List Bool) (stage : ℕ) (block : Block)
    → IsBlockRefused rows shift universe flags stage → IsBlock rows shift issuer universe flags block → ⊥
