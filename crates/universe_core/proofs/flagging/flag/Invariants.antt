use Rattle.std.specs.List.{count_by}
use Rattle.std.specs.Prelude.{is_some}
use Rattle.std.proofs.Common.{◌≡◌, ◌&&◌, ◌||◌, map, take, not, Bool, length}
use Rattle.ident_core.specs.declared.identity.Identity.{Identity}
use Rattle.ident_core.specs.Sets.{has_key}
use Rattle.universe_core.proofs.flagging.flag.Given as goal

abbrev pub invariant-loop-i : goal.invariant-loop-i
invariant-loop-i l = record {
  revoked : (s g : Identity → Bool) → l.settled ≡ map (λ m. s m.id) l.members → l.listed ≡ map (λ m. g m.id) l.members
      → l.revoked.items ≡ map (λ m. has_key l.issuers m.id.issuer && ((is_some m.last || g m.id) && not (s m.id))) (take l.i l.members);
  beside : length l.revoked.items ≡ l.i;
  universe : l.universe ≡ count_by (λ m. has_key l.issuers m.id.issuer) (take l.i l.members);
}
