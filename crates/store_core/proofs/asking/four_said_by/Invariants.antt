use Rattle.std.proofs.Common.{◌≡◌, take}
use Rattle.store_core.specs.Asking.{said_of}
use Rattle.store_core.proofs.asking.four_said_by.Given as goal

abbrev pub invariant-loop-sealed : goal.invariant-loop-sealed
invariant-loop-sealed g l = record {
  same_a : l.a ≡ l.fn.a;
  same_b : l.b ≡ l.fn.b;
  same_c : l.c ≡ l.fn.c;
  same_d : l.d ≡ l.fn.d;
  of_a : l.of_a ≡ said_of (take l.sealed-index l.parts) l.fn.a;
  of_b : l.of_b ≡ said_of (take l.sealed-index l.parts) l.fn.b;
  of_c : l.of_c ≡ said_of (take l.sealed-index l.parts) l.fn.c;
  of_d : l.of_d ≡ said_of (take l.sealed-index l.parts) l.fn.d;
}
