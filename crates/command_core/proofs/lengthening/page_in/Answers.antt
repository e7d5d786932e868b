use Rattle.std.proofs.Common.{◌+◌, refl, ◌∙◌, ap, length, map, Ok, Err, Vec, Global, arith}
use Rattle.std.proofs.lemmas.Result.{err_from_is_err_and}
use Rattle.gather_core.specs.declared.fault.PageFault.TheVariants as page
use Rattle.gather_core.specs.declared.page.PageEntry.{PageEntry}
use Rattle.gather_core.specs.declared.page.TheConstants.{MAX_PAGE}
use Rattle.gather_core.specs.Pages.{fields_of}
use Rattle.input_core.specs.declared.fault.FileFault.TheVariants as faults
use Rattle.input_core.specs.Faults.{of_page}
use Rattle.outside_core.specs.Reads.{WhichFailed}
use Rattle.input_core.proofs.FilesRead.{input_err, input_front, faulted_ok, faulted_err}
use Rattle.command_core.specs.Longer.{page_in}
use Rattle.command_core.proofs.PagesRead.{page_front, page_long, page_short}
use Rattle.command_core.proofs.lengthening.page_in.Goals as goal

pub returns-in_err-bytes-clause-input : goal.returns-in_err-bytes-clause-input
returns-in_err-bytes-clause-input g c =
    let p = err_from_is_err_and c.from_residual.result c.from_residual.ensures.1 in
    rw (p.1, p.2)
    (input_err (g.D.Depot.files c.args.depot.now) (WhichFailed g.D.Depot c.args.depot.now _) c.args.name.now page_in (λ (v : Vec PageEntry Global). map fields_of v.items)
    c.in_err-bytes.field-0.0 c.in_err-bytes.ensures.failed c.in_err-bytes.ensures.unblamed)

pub returns-in_err-read_page-clause-input : goal.returns-in_err-read_page-clause-input
returns-in_err-read_page-clause-input g c =
    let p = err_from_is_err_and c.from_residual-in_err-read_page.result c.from_residual-in_err-read_page.ensures.1 in
    rw (p.1, p.2)
    (input_front (g.D.Depot.files c.args.depot.now) (WhichFailed g.D.Depot c.args.depot.now _) c.args.name.now c.in_ok-bytes.bytes.items (MAX_PAGE + 1) page_in
    (λ (v : Vec PageEntry Global). map fields_of v.items) (Err (of_page c.in_err-read_page.field-0.0)) c.in_ok-bytes.bytes page_front c.in_ok-bytes.ensures.bytes c.in_ok-bytes.ensures.unblamed
    (λ refute. page_short c.in_ok-bytes.bytes.items (omega (arith, c.in_ok-check_length.ensures.short, ap length c.deref.ensures.value, c.in_ok-bytes.bytes.ok))
    ∙ faulted_err of_page page.NoMemory c.in_err-read_page.field-0.0 (λ (v : Vec PageEntry Global). map fields_of v.items) _ refl
    (rw c.deref-2.ensures.value at c.in_err-read_page.ensures.exact) refute))

pub returns-clause-input : goal.returns-clause-input
returns-clause-input g c =
    input_front (g.D.Depot.files c.args.depot.now) (WhichFailed g.D.Depot c.args.depot.now _) c.args.name.now c.in_ok-bytes.bytes.items (MAX_PAGE + 1) page_in
    (λ (v : Vec PageEntry Global). map fields_of v.items) (Ok c.in_ok-read_page.field-0) c.in_ok-bytes.bytes page_front c.in_ok-bytes.ensures.bytes c.in_ok-bytes.ensures.unblamed
    (page_short c.in_ok-bytes.bytes.items (omega (arith, c.in_ok-check_length.ensures.short, ap length c.deref.ensures.value, c.in_ok-bytes.bytes.ok))
    ∙ faulted_ok of_page (λ (v : Vec PageEntry Global). map fields_of v.items) c.in_ok-read_page.field-0 _ (rw c.deref-2.ensures.value at c.in_ok-read_page.ensures.exact))

pub returns-in_err-check_length-clause-input : goal.returns-in_err-check_length-clause-input
returns-in_err-check_length-clause-input g c =
    let p = err_from_is_err_and c.from_residual-in_err-check_length.result c.from_residual-in_err-check_length.ensures.1 in
    let long = c.in_err-check_length.ensures.long in
    rw (p.1, p.2, long.0)
    (input_front (g.D.Depot.files c.args.depot.now) (WhichFailed g.D.Depot c.args.depot.now _) c.args.name.now c.in_ok-bytes.bytes.items (MAX_PAGE + 1) page_in
    (λ (v : Vec PageEntry Global). map fields_of v.items) (Err (faults.BadPage (page.Size 0))) c.in_ok-bytes.bytes page_front c.in_ok-bytes.ensures.bytes c.in_ok-bytes.ensures.unblamed
    (λ refute. page_long c.in_ok-bytes.bytes.items (omega (arith, long.1, ap length c.deref.ensures.value, c.in_ok-bytes.bytes.ok))))
