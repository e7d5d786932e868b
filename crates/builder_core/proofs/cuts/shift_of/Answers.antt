use Rattle.std.proofs.Common.{◌≡◌, ◌∙◌, ap, rules, length, filter, List, Bool}
use Rattle.builder_core.proofs.TaskLists.{shift_is}
use Rattle.builder_core.proofs.cuts.shift_of.Goals as goal

pub returns-in-Sharded-clause-value : goal.returns-in-Sharded-clause-value
returns-in-Sharded-clause-value c =
    let set = c.count.ensures.value ∙ ap (λ (l : List Bool). length (filter (λ f. f) l)) c.deref.ensures.value in
    let all : c.len.result ≡ length c.args.group.now.universe.items = search rules in
    rw c.in-Sharded.is
    (c.shift_for.ensures ∙ shift_is c.args.group.now.universe.items c.args.group.now.revoked.items c.len.result c.count.result c.requires.beside all set)
