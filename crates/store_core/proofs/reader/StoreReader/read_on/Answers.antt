use Rattle.std.proofs.Common.{◌≡◌, ◌≤◌, ◌+◌, ◌++◌, List, ℕ, length, take, drop, ap, sym, subst, ◌∙◌, arith, inr, append_assoc, length-append, length-take, length-drop, ◌<◌}
use Rattle.std.proofs.lemmas.List.{take_rest}
use Rattle.store_core.specs.StoreLayout.{store_parts}
use Rattle.store_core.specs.StoreReading.{PartsRead}
use Rattle.store_core.proofs.StoreReads.{ends-all, ends-by, front-more, front-all, opened, not-opened}
use Rattle.store_core.proofs.reader.StoreReader.read_on.Goals as goal

pub returns-in-Some-clause-less : goal.returns-in-Some-clause-less
returns-in-Some-clause-less c =
    let e = c.feed.ensures in
    ends-all c.feed.result c.in-Some.parts c.feed.new.self c.args.self.now.parts c.args.self.now.front c.args.piece.now c.in-Some.is e.ok e.less

pub returns-in-Err-clause-err : goal.returns-in-Err-clause-err
returns-in-Err-clause-err c = λ wants b x came.
    let front : b ≡ c.args.self.now.front = (rw c.in_default.is at came).0 in
    let w = c.args.piece.now in
    let f = c.take-n.new.self in
    let ten : 10 ≤ length f = omega (arith, c.if-as_slice-lt-OPENING.false, ap (λ (l : List ℕ). length l) c.as_slice.ensures) in
    ap (λ (l : List ℕ). store_parts l 0) (sym (front-all f c.args.self.now.front b w x c.take-n.result c.take-n.ensures.taken front))
    ∙ not-opened f c.in-Err.fault (rw c.as_slice-2.ensures at c.in-Err.ensures.exact) (drop c.take-n.result w ++ x) (inr ten)

-- the parts behind an opening that is whole
begun : (c : goal.Joined-self-2) (b : List ℕ) → b ≡ c.args.self.now.front → length c.args.self.now.front < 10 → PartsRead c.new-parts.result c.take-n.new.self
begun c b front few =
    let f = c.take-n.new.self in
    let size = length-append c.args.self.now.front (take c.take-n.result c.args.piece.now) in
    let le : length f ≤ 10 =
    omega (arith, few, c.take-n.ensures.count, size, length-take c.take-n.result c.args.piece.now, ap (λ (l : List ℕ). length l) c.take-n.ensures.taken) in
    c.new-parts.ensures f (opened f c.in-Ok.count (rw c.as_slice-2.ensures at c.in-Ok.ensures.exact) le)

pub returns-in-Ok-feed-clause-ok : goal.returns-in-Ok-feed-clause-ok
returns-in-Ok-feed-clause-ok c = λ b came.
    let at = rw c.in_default.is at came in
    let w = c.args.piece.now in
    let f = c.take-n.new.self in
    let ok = rw (take_rest w c.take-n.result) at c.in-Ok-feed.ensures.ok in
    subst (λ (l : List ℕ). PartsRead c.feed-2.new.self l) (front-more f c.args.self.now.front b w c.take-n.result c.in-Ok-feed.more c.take-n.ensures.taken at.0)
    (ok f (begun c b at.0 at.1))

pub returns-in-Ok-feed-clause-less : goal.returns-in-Ok-feed-clause-less
returns-in-Ok-feed-clause-less c = λ lt b came.
    let at = rw c.in_default.is at came in
    let w = c.args.piece.now in
    let f = c.take-n.new.self in
    let ok = rw (take_rest w c.take-n.result) at c.in-Ok-feed.ensures.ok in
    let less = rw (take_rest w c.take-n.result) at c.in-Ok-feed.ensures.less in
    ends-by c.feed-2.new.self (b ++ take (c.take-n.result + c.in-Ok-feed.more) w) (less (omega (arith, lt, length-drop c.take-n.result w)))
    (subst (λ (l : List ℕ). PartsRead c.feed-2.new.self l) (front-more f c.args.self.now.front b w c.take-n.result c.in-Ok-feed.more c.take-n.ensures.taken at.0)
    (ok f (begun c b at.0 at.1)))

pub returns-in-Err-feed-clause-err : goal.returns-in-Err-feed-clause-err
returns-in-Err-feed-clause-err c = λ wants b x came.
    let at = rw c.in_default.is at came in
    let w = c.args.piece.now in
    let f = c.take-n.new.self in
    let size = length-append c.args.self.now.front (take c.take-n.result w) in
    let le : length f ≤ 10 =
    omega (arith, at.1, c.take-n.ensures.count, size, length-take c.take-n.result w, ap (λ (l : List ℕ). length l) c.take-n.ensures.taken) in
    let read = c.new-parts.ensures f (opened f c.in-Ok.count (rw c.as_slice-2.ensures at c.in-Ok.ensures.exact) le) in
    let err = rw (take_rest w c.take-n.result) at c.in-Err-feed.ensures.err in
    ap (λ (l : List ℕ). store_parts l 0) (sym (front-all f c.args.self.now.front b w x c.take-n.result c.take-n.ensures.taken at.0) ∙ sym (append_assoc f (drop c.take-n.result w) x))
    ∙ err wants f x read
