-- Bytes taken from a feed, piece by piece.
use Rattle.std.proofs.Common.{◌≡◌, ℕ, ◌+◌, ◌-◌, ◌≤◌, List, ◌++◌, length, take, drop, refl, sym, ap, ◌∙◌, arith, length-take}
use Rattle.std.proofs.Math.Seq.{take-add}
use Rattle.std.proofs.lemmas.List.{drop-drop, take-take}
use Rattle.std.proofs.lemmas.Slice.{take-put_mid}
use borrow.Rule.Slice.PartMut.{put_mid}
use Rattle.octets_core.specs.Position.{piece}
use Rattle.outside_core.specs.declared.depot.Depot.{Ghosts}
use Rattle.outside_core.specs.declared.feed.Feed.{Feed}
use Rattle.outside_core.specs.Feeding.{IsWindow}
use Rattle.outside_core.specs.Pulling.{Pulled}

pub pulled-none : {D : Type 0} (g : Ghosts D) (feed : Feed D) → Pulled g feed feed
pulled-none g feed = record {
  same_reference = refl;
  name = refl;
  only_reads = record
      { later = omega arith; same_files = refl; same_writes = refl };
  stands = λ file stands. stands;
  further = omega arith;
}

pub pulled-then : {D : Type 0} (g : Ghosts D) (old mid new : Feed D) → Pulled g old mid → Pulled g mid new → Pulled g old new
pulled-then g old mid new a b = record {
  same_reference = b.same_reference ∙ a.same_reference;
  name = b.name ∙ a.name;
  only_reads = record {
    later = omega (arith, a.only_reads.later, b.only_reads.later);
    same_files = b.only_reads.same_files ∙ a.only_reads.same_files;
    same_writes = b.only_reads.same_writes ∙ a.only_reads.same_writes;
  };
  stands = λ file stands. b.stands file (a.stands file stands);
  further = omega (arith, a.further, b.further);
}

-- a part of the window more
pub pulled-more : (file : List ℕ) (at done count k : ℕ) (window out part : List ℕ) → IsWindow file (at + done) window → count ≤ length window
    → take done out ≡ piece done file at → part ≡ take count window → done ≤ length out → take (done + count) (put_mid done k out part) ≡ piece (done + count) file at
pulled-more file at done count k window out part is le before taken room =
    let len : length part ≡ count = omega (arith, ap length taken, length-take count window, le) in
    let next : part ≡ take count (drop (at + done) file) = taken ∙ ap (take count) is.same ∙ take-take count (length window) (drop (at + done) file) le in
    take-put_mid done k out part (done + count) (omega (arith, len)) room
    ∙ ap (λ (l : List ℕ). l ++ part) before
    ∙ ap (λ (l : List ℕ). take done (drop at file) ++ l) (next ∙ ap (take count) (sym (drop-drop done at file)))
    ∙ sym (take-add done count (drop at file))

-- the front of a buffer that was filled up to a place
pub pulled-front : (file : List ℕ) (at done end : ℕ) (out : List ℕ) → done ≤ length out → end ≡ at + done → at + done ≤ length file → take done out ≡ piece done file at
    → IsWindow file at (take (end - at) out)
pulled-front file at done end out le is room same =
    let k : end - at ≡ done = omega (arith, is) in
    let len : length (take done out) ≡ done = omega (arith, length-take done out, le) in
    rw k (record { same = same ∙ ap (λ (n : ℕ). piece n file at) (sym len); within = omega (arith, room, len) })
