use Rattle.std.proofs.Common.{List, Vec, Global, map}
use Rattle.std.proofs.lemmas.Result.{err_from_is_err_and}
use Rattle.gather_core.specs.declared.page.PageEntry.{PageEntry}
use Rattle.gather_core.specs.Pages.{PageFields, fields_of}
use Rattle.outside_core.specs.Reads.{WhichFailed}
use Rattle.command_core.proofs.PagesRead.{page_held, page_refused, page_wanted}
use Rattle.command_core.proofs.lengthening.page_entries.Goals as goal

abbrev fields : Vec PageEntry Global → List PageFields
fields v = map fields_of v.items

pub returns-in_err-page-clause-refused : goal.returns-in_err-page-clause-refused
returns-in_err-page-clause-refused g c =
    let p = err_from_is_err_and c.from_residual.result c.from_residual.ensures.1 in
    rw (p.1, p.2)
    (page_refused (g.D.Depot.files c.args.depot.now) (WhichFailed g.D.Depot c.args.depot.now _) c.args.name.now c.args.log.now fields c.in_err-page.field-0.0 c.in_err-page.ensures.input)

pub returns-in-Ok-clause-held : goal.returns-in-Ok-clause-held
returns-in-Ok-clause-held g c =
    page_held (g.D.Depot.files c.args.depot.now) (WhichFailed g.D.Depot c.args.depot.now _) c.args.name.now c.args.log.now fields c.in_ok-page.page c.in-Ok.entries c.in_ok-page.ensures.input
    (rw c.deref.ensures.value at c.in-Ok.ensures)

pub returns-clause-refused : goal.returns-clause-refused
returns-clause-refused g c =
    page_wanted (g.D.Depot.files c.args.depot.now) (WhichFailed g.D.Depot c.args.depot.now _) c.args.name.now c.args.log.now fields c.in_ok-page.page c.in_ok-page.ensures.input
