use Rattle.std.proofs.Common.{◌≡◌, ℕ, List, Vec, Global, map, max, Bor, ap, ◌∙◌, arith}
use Rattle.std.specs.Prelude.{flat_map, All, IfOk}
use Rattle.rayon.specs.Lists.{chunks_of}
use Rattle.rayon.proofs.ListFacts.{IfOk-then}
use Rattle.octets_core.specs.declared.memory.NoMemory.{NoMemory}
use Rattle.ledger_core.specs.declared.encode.TheConstants.{PIECE_ITEMS}
use Rattle.ledger_core.specs.declared.fields.LedgerItem.{LedgerItem}
use Rattle.ledger_core.specs.LedgerText.{item_text}
use Rattle.ledger_core.specs.Fitting.{ItemFits}
use Rattle.ledger_core.proofs.Pieces.{made-in-pieces}
use Rattle.ledger_core.proofs.encode.item_pieces.Goals as goal

pieces : (g : _) (c : goal.In_ok-collect g)
    → IfOk c.in_ok-collect.field-0 (λ v. (flat_map (λ (piece : Vec ℕ Global). piece.items) v.items ≡ flat_map (item_text 2) c.args.items.now) × All ItemFits c.args.items.now)
pieces g c =
    let h = c.in_ok-collect.ensures in
    let chain = h.1 in
    let xs : List LedgerItem = c.args.items.now in
    let shown : map (λ (z : Bor (List LedgerItem)). z.now) chain.0 ≡ chunks_of PIECE_ITEMS xs =
    chain.1
    ∙ ap (λ it. chunks_of (max it.size 1) it.slice.now) c.map.ensures.base
    ∙ ap (λ (l : List LedgerItem). chunks_of (max c.par_chunks.result.size 1) l) c.par_chunks.ensures.slice
    ∙ ap (λ (n : ℕ). chunks_of (max n 1) xs) c.par_chunks.ensures.size in
    made-in-pieces NoMemory (item_text 2) ItemFits (λ (piece : Vec ℕ Global). piece.items) (λ v. v.items) PIECE_ITEMS xs chain.0 h.0 c.in_ok-collect.field-0 (omega arith) shown chain.2 h.2

pub returns-clause-text : goal.returns-clause-text
returns-clause-text g c = IfOk-then c.in_ok-collect.field-0 _ _ (pieces g c) (λ v made. made.0)

pub returns-clause-fits : goal.returns-clause-fits
returns-clause-fits g c = IfOk-then c.in_ok-collect.field-0 _ _ (pieces g c) (λ v made. made.1)
