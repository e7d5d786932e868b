-- Groups have blocks, or one is the first that is refused.
use Rattle.std.proofs.Common.{◌≡◌, ◌⊎◌, ℕ, List, [], ◌∷◌, map, refl, sym, ap, subst, inl, inr}
use Rattle.std.specs.Prelude.{not}
use Rattle.ident_core.specs.declared.identity.Identity.{Identity}
use Rattle.equation_core.specs.Rows.{Rows}
use Rattle.card_core.specs.declared.block.Block.{Block}
use Rattle.card_core.specs.declared.block.Body.{Body}
use Rattle.card_core.specs.declared.block.Body.TheVariants as bodies
use Rattle.card_core.specs.declared.leaf.Leaf.TheVariants as leafs
use Rattle.card_core.specs.Leaf.{flagged}
use Rattle.card_core.specs.Filter.{Filter, alone, cut, filter_of, IsFilter, IsBlockRefused}
use Rattle.card_core.proofs.Existing.{filter_or_refusal}
use Rattle.universe_core.specs.Groups.{GroupFields}
use Rattle.builder_core.specs.declared.format.Format.{Format}
use Rattle.builder_core.specs.Building.{shift_in, IsGroupBlock, IsFirstRefused}
use Rattle.builder_core.specs.Laws.{BlocksOrRefusal}

-- each filter is that of a body
body_of : (f : Filter) → (body : Body) × (filter_of body ≡ f)
body_of (alone leafs.Clean) = (bodies.Clean, refl)
body_of (alone leafs.Every) = (bodies.Every, refl)
body_of (alone (leafs.Mixed m)) = (bodies.Mixed m, refl)
body_of (cut shift leaves) = (bodies.Sharded (record { shift = shift; leaves = leaves }), refl)

module _ (format : Format) (rows : Rows) (g : GroupFields) where
  abbrev revoked : List Identity
  revoked = flagged g.universe g.revoked

  abbrev others : List Identity
  others = flagged g.universe (map not g.revoked)

  block_of_filter : (f : Filter) → IsFilter rows (shift_in format g) revoked others f → (block : Block) × IsGroupBlock format rows g block
  block_of_filter f is =
      let body = body_of f in
      (record { issuer = g.issuer; body = body.0 }, (refl, subst (IsFilter rows (shift_in format g) revoked others) (sym body.1) is))

  block_or_refusal : ((block : Block) × IsGroupBlock format rows g block)
      ⊎ ((stage : ℕ) × IsBlockRefused rows (shift_in format g) g.universe g.revoked stage)
  block_or_refusal = elim (filter_or_refusal rows (shift_in format g) revoked others) [
    | inl f ↦ inl (block_of_filter f.0 f.1)
    | inr r ↦ inr r
  ]

first_here : (format : Format) (rows : Rows) (g : GroupFields) (groups : List GroupFields) (stage : ℕ)
    → IsBlockRefused rows (shift_in format g) g.universe g.revoked stage → IsFirstRefused format rows (g ∷ groups) g.issuer stage
first_here format rows g groups stage r = record { before = []; group = g; after = groups; whole = refl; blocks = []; built = tt; named = refl; refused = r }

first_later : (format : Format) (rows : Rows) (g : GroupFields) (groups : List GroupFields) (issuer : List ℕ) (stage : ℕ) (block : Block) → IsGroupBlock format rows g block
    → IsFirstRefused format rows groups issuer stage → IsFirstRefused format rows (g ∷ groups) issuer stage
first_later format rows g groups issuer stage block is r = record {
  before = g ∷ r.before;
  group = r.group;
  after = r.after;
  whole = ap (λ (gs : List GroupFields). g ∷ gs) r.whole;
  blocks = block ∷ r.blocks;
  built = (is, r.built);
  named = r.named;
  refused = r.refused;
}

pub blocks_or_refusal : BlocksOrRefusal
blocks_or_refusal format rows [] = inl ([], tt)
blocks_or_refusal format rows (g ∷ groups) = elim (block_or_refusal format rows g) [
  | inr r ↦ inr (g.issuer, r.0, first_here format rows g groups r.0 r.1)
  | inl b ↦
      (elim (blocks_or_refusal format rows groups) [
        | inl bs ↦ inl (b.0 ∷ bs.0, (b.1, bs.1))
        | inr r ↦ inr (r.0, r.1, first_later format rows g groups r.0 r.1 b.0 b.1 r.2)
      ])
]
