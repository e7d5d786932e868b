use Rattle.std.proofs.Common.{◌∙◌, ap, refl, length}
use Rattle.ledger_core.specs.LedgerFields.{ids}
use Rattle.universe_core.proofs.Revoking.{told_flags, beside_marks}
use Rattle.universe_core.proofs.flagging.revoked_now.Goals as goal

pub flag-requires : goal.flag-requires
flag-requires g c = record {
  shared = c.requires.shared;
  settled = c.requires.beside;
  listed = ap length c.deref.ensures.value ∙ beside_marks c.args.crls.now (ids c.args.members.now) c.args.members.now c.in_ok-listed.listed.items refl c.in_ok-listed.ensures;
  ascend = c.requires.issuers;
  few = c.requires.few;
}

pub returns-clause-revoked : goal.returns-clause-revoked
returns-clause-revoked g c = λ ledger job of.
    told_flags ledger job c.args.crls.now c.args.issuers.now c.args.members.now c.args.settled.now
    c.deref.result.now c.in_ok-flags.flags.revoked.items of
    (c.deref.ensures.value ∙ c.in_ok-listed.ensures) c.in_ok-flags.ensures.revoked
