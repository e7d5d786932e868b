use Rattle.std.proofs.Common.{ℕ, List, Vec, Global, ap, ◌∙◌}
use Rattle.std.specs.Prelude.{flat_map}
use Rattle.ledger_core.specs.declared.fields.LedgerItem.{LedgerItem}
use Rattle.ledger_core.specs.LedgerText.{item_text}
use Rattle.ledger_core.proofs.Pieces.{whole-text}
use Rattle.ledger_core.proofs.encode.encode_ledger_pieces.Goals as goal

pub returns-clause-text : goal.returns-clause-text
returns-clause-text g c =
    whole-text (λ (piece : Vec ℕ Global). piece.items) 2 c.args.ledger.now c.in_ok-head.head c.in_ok-pieces.pieces.items c.insert.new.self.items c.in_ok-head.ensures.text
    (c.in_ok-pieces.ensures.text ∙ ap (λ (l : List LedgerItem). flat_map (item_text 2) l) c.items.ensures.value) c.in_ok-insert.ensures.items
