use Rattle.std.proofs.Common.{◌≡◌, ℕ, ◌+◌, ◌-◌, ◌≤◌, List, length, take, drop, sym, ap, ◌∙◌, arith}
use Rattle.std.proofs.lemmas.List.{drop-take, drop-drop, length-take}
use Rattle.outside_core.specs.Feeding.{untaken}
use Rattle.outside_core.proofs.window.Window.consume.Goals as goal

untaken-drop : (buffer : List ℕ) (start end n : ℕ) (window : List ℕ) → untaken buffer start end ≡ window → n ≤ length window → untaken buffer (start + n) end ≡ drop n window
untaken-drop buffer start end n window is le =
    let few : n ≤ end - start = omega (arith, length-take (end - start) (drop start buffer), ap length is) in
    let k : end - start ≡ n + (end - (start + n)) = omega arith in
    let cut : drop n (take (end - start) (drop start buffer)) ≡ take (end - (start + n)) (drop n (drop start buffer)) = rw k (drop-take n (end - (start + n)) (drop start buffer)) in
    ap (take (end - (start + n))) (sym (drop-drop n start buffer)) ∙ sym cut ∙ ap (drop n) is

pub returns : goal.returns
returns c = untaken-drop c.self.inside.buffer c.self.inside.start c.self.inside.end c.args.n c.args.self.now c.self.view_is c.requires
