use Rattle.std.proofs.Common.{◌≡◌, ℕ, Option, Some, Result, Ok, Err, refl, sym, ap, subst, ◌∙◌, arith}
use Rattle.std.proofs.lemmas.Result.{err_from_is_err_and}
use Rattle.outside_core.specs.Standing.{place_of}
use Rattle.job_core.specs.declared.fault.JobFault.{JobFault}
use Rattle.job_core.specs.declared.reader.Record.{Record}
use Rattle.job_core.specs.declared.reader.Record.TheVariants as gives
use Rattle.job_core.specs.JobLayout.{Item, OneRange, OneCrl, OneEntry}
use Rattle.job_core.specs.JobText.{crl_held, entry_held}
use Rattle.std.specs.Prelude.{IfSome}
use Rattle.job_core.specs.declared.reader.Stage.TheVariants as stages
use Rattle.job_core.specs.declared.raw.RawEntry.{RawEntry}
use Rattle.job_core.specs.declared.records.Item.{Item as Taken}
use Rattle.job_core.specs.JobLayout.{with_item}
use Rattle.job_core.specs.Partial.{held_in}
use Rattle.job_core.specs.Records.{item_of_record, some_record}
use Rattle.job_core.specs.declared.partial.Numbers.{Numbers}
use Rattle.outside_core.proofs.Pulling.{pulled-then}
use Rattle.job_core.proofs.Fetching.{blames-then, told, end-ok}
use Rattle.job_core.proofs.JobStanding.{gives-one, gives-end, gives-fault, gives-more}
use Rattle.job_core.proofs.FitsGiven.{range-fits, crl-fits, entry-fits}
use Rattle.job_core.proofs.reader.JobReader.record.Goals as goal

abbrev told_as : RawEntry → ℕ → Option Taken → Result (Option Item × ℕ) JobFault
told_as entry end o = Ok (some_record entry o, end)

abbrev Behind : RawEntry → Numbers → Numbers → Option Taken → Type 0
Behind entry old new o = IfSome o (λ taken. held_in new ≡ with_item (held_in old) (item_of_record entry taken))

pub returns-in_err-next_item_from-clause-next : goal.returns-in_err-next_item_from-clause-next
returns-in_err-next_item_from-clause-next g c =
    let p = err_from_is_err_and c.from_residual.result c.from_residual.ensures.1 in
    let e = c.in_err-next_item_from.ensures.exact in
    rw (p.1, p.2) (λ file stands has. gives-fault c.args.self.now c.args.self.now file (place_of c.args.feed.now) (place_of c.next_item_from.new.feed)
    (omega (arith, stands.window.within)) has _ c.requires (told e file stands))

pub returns-in_err-next_item_from-clause-pulled : goal.returns-in_err-next_item_from-clause-pulled
returns-in_err-next_item_from-clause-pulled g c = c.in_err-next_item_from.ensures.exact.pulled

pub returns-in_err-next_item_from-clause-blames : goal.returns-in_err-next_item_from-clause-blames
returns-in_err-next_item_from-clause-blames g c =
    let p = err_from_is_err_and c.from_residual.result c.from_residual.ensures.1 in
    rw (p.1, p.2) c.in_err-next_item_from.ensures.exact.blames

pub returns-in_ok-fetch_end-in-None-clause-next : goal.returns-in_ok-fetch_end-in-None-clause-next
returns-in_ok-fetch_end-in-None-clause-next g c = λ file stands has.
    let e = c.in_ok-next_item_from.ensures.exact in
    let f = c.in_ok-fetch_end-in-None.ensures in
    let mid = e.pulled.stands file stands in
    let later = f.pulled.stands file mid in
    let t = told e file stands in
    gives-end c.args.self.now (record c.args.self.now { numbers = c.next_item_from.new.numbers; stage = stages.Ended }) file (place_of c.args.feed.now) (place_of c.fetch_end.new.feed)
    (omega (arith, e.pulled.further, f.pulled.further)) (omega (arith, later.window.within)) refl has (place_of c.next_item_from.new.feed) _ c.requires refl (sym f.place)
    (t.0 ∙ ap (told_as c.next_item_from.new.into (place_of c.next_item_from.new.feed)) c.in-None.is, t.1) (end-ok file (place_of c.next_item_from.new.feed) (place_of c.fetch_end.new.feed)
    (f.ended file mid) f.place)

pub returns-in_ok-fetch_end-in-None-clause-pulled : goal.returns-in_ok-fetch_end-in-None-clause-pulled
returns-in_ok-fetch_end-in-None-clause-pulled g c = pulled-then g.D.Depot c.args.feed.now c.next_item_from.new.feed c.fetch_end.new.feed
    c.in_ok-next_item_from.ensures.exact.pulled c.in_ok-fetch_end-in-None.ensures.pulled

pub returns-in_ok-fetch_end-in-None-clause-blames : goal.returns-in_ok-fetch_end-in-None-clause-blames
returns-in_ok-fetch_end-in-None-clause-blames g c = c.in_ok-fetch_end-in-None.ensures.blames ∙ c.in_ok-next_item_from.ensures.exact.blames

pub returns-in_err-fetch_end-in-None-clause-next : goal.returns-in_err-fetch_end-in-None-clause-next
returns-in_err-fetch_end-in-None-clause-next g c =
    let r = c.from_residual-in_err-fetch_end-in-None in
    let p = err_from_is_err_and r.result r.ensures.1 in
    let e = c.in_ok-next_item_from.ensures.exact in
    let f = c.in_err-fetch_end-in-None.ensures in
    rw (p.1, p.2) (λ file stands has.
    let t = told e file stands in
    gives-more c.args.self.now c.args.self.now file (place_of c.args.feed.now) (place_of c.fetch_end.new.feed) (omega (arith, stands.window.within)) has _ (place_of c.next_item_from.new.feed)
    c.requires (t.0 ∙ ap (told_as c.next_item_from.new.into (place_of c.next_item_from.new.feed)) c.in-None.is) (λ of.
    let (x, next, wrong) = f.more of in wrong file (omega (arith, (next file (e.pulled.stands file stands)).within))))

pub returns-in_err-fetch_end-in-None-clause-pulled : goal.returns-in_err-fetch_end-in-None-clause-pulled
returns-in_err-fetch_end-in-None-clause-pulled g c = pulled-then g.D.Depot c.args.feed.now c.next_item_from.new.feed c.fetch_end.new.feed
    c.in_ok-next_item_from.ensures.exact.pulled c.in_err-fetch_end-in-None.ensures.pulled

pub returns-in_err-fetch_end-in-None-clause-blames : goal.returns-in_err-fetch_end-in-None-clause-blames
returns-in_err-fetch_end-in-None-clause-blames g c =
    let r = c.from_residual-in_err-fetch_end-in-None in
    let p = err_from_is_err_and r.result r.ensures.1 in
    let e = c.in_ok-next_item_from.ensures.exact in
    rw (p.1, p.2) (blames-then {X = Record} g.D.Depot c.args.feed.now c.next_item_from.new.feed c.fetch_end.new.feed (Err _) e.pulled e.blames c.in_err-fetch_end-in-None.ensures.blames)

pub returns-in-Some-Range-clause-next : goal.returns-in-Some-Range-clause-next
returns-in-Some-Range-clause-next g c = λ file stands has.
    let e = c.in_ok-next_item_from.ensures.exact in
    let later = e.pulled.stands file stands in
    let is = c.in-Some-Range.is ∙ ap Some c.in-Some-Range.field-0-is in
    let t = told e file stands in
    gives-one c.args.self.now (record c.args.self.now { numbers = c.next_item_from.new.numbers }) file (place_of c.args.feed.now) (place_of c.next_item_from.new.feed) e.pulled.further
    (omega (arith, later.window.within)) refl has (OneRange c.in-Some-Range.range) (gives.Range c.in-Some-Range.range) c.requires c.requires
    (subst (Behind c.next_item_from.new.into c.args.self.now.numbers c.next_item_from.new.numbers) is c.in_ok-next_item_from.ensures.behind) refl (λ same. absurd cc)
    (t.0 ∙ ap (told_as c.next_item_from.new.into (place_of c.next_item_from.new.feed)) is, t.1)

pub returns-in-Some-Range-clause-pulled : goal.returns-in-Some-Range-clause-pulled
returns-in-Some-Range-clause-pulled g c = c.in_ok-next_item_from.ensures.exact.pulled

pub returns-in-Some-Range-clause-blames : goal.returns-in-Some-Range-clause-blames
returns-in-Some-Range-clause-blames g c = c.in_ok-next_item_from.ensures.exact.blames

pub returns-in-Some-Crl-clause-next : goal.returns-in-Some-Crl-clause-next
returns-in-Some-Crl-clause-next g c = λ file stands has.
    let e = c.in_ok-next_item_from.ensures.exact in
    let later = e.pulled.stands file stands in
    let is = c.in-Some-Crl.is ∙ ap Some c.in-Some-Crl.field-0-is in
    let t = told e file stands in
    gives-one c.args.self.now (record c.args.self.now { numbers = c.next_item_from.new.numbers }) file (place_of c.args.feed.now) (place_of c.next_item_from.new.feed) e.pulled.further
    (omega (arith, later.window.within)) refl has (OneCrl (crl_held c.in-Some-Crl.crl)) (gives.Crl c.in-Some-Crl.crl) c.requires c.requires
    (subst (Behind c.next_item_from.new.into c.args.self.now.numbers c.next_item_from.new.numbers) is c.in_ok-next_item_from.ensures.behind) refl (λ same. absurd cc)
    (t.0 ∙ ap (told_as c.next_item_from.new.into (place_of c.next_item_from.new.feed)) is, t.1)

pub returns-in-Some-Crl-clause-pulled : goal.returns-in-Some-Crl-clause-pulled
returns-in-Some-Crl-clause-pulled g c = c.in_ok-next_item_from.ensures.exact.pulled

pub returns-in-Some-Crl-clause-blames : goal.returns-in-Some-Crl-clause-blames
returns-in-Some-Crl-clause-blames g c = c.in_ok-next_item_from.ensures.exact.blames

pub returns-in-Some-Entry-clause-next : goal.returns-in-Some-Entry-clause-next
returns-in-Some-Entry-clause-next g c = λ file stands has.
    let e = c.in_ok-next_item_from.ensures.exact in
    let later = e.pulled.stands file stands in
    let is = c.in-Some-Entry.is ∙ ap Some c.in-Some-Entry.field-0-is in
    let t = told e file stands in
    gives-one c.args.self.now (record c.args.self.now { numbers = c.next_item_from.new.numbers }) file (place_of c.args.feed.now) (place_of c.next_item_from.new.feed) e.pulled.further
    (omega (arith, later.window.within)) refl has (OneEntry (entry_held c.next_item_from.new.into)) (gives.Entry c.next_item_from.new.into) c.requires c.requires
    (subst (Behind c.next_item_from.new.into c.args.self.now.numbers c.next_item_from.new.numbers) is c.in_ok-next_item_from.ensures.behind) refl (λ same. absurd cc)
    (t.0 ∙ ap (told_as c.next_item_from.new.into (place_of c.next_item_from.new.feed)) is, t.1)

pub returns-in-Some-Entry-clause-pulled : goal.returns-in-Some-Entry-clause-pulled
returns-in-Some-Entry-clause-pulled g c = c.in_ok-next_item_from.ensures.exact.pulled

pub returns-in-Some-Entry-clause-blames : goal.returns-in-Some-Entry-clause-blames
returns-in-Some-Entry-clause-blames g c = c.in_ok-next_item_from.ensures.exact.blames

pub returns-in-Some-Range-clause-fits : goal.returns-in-Some-Range-clause-fits
returns-in-Some-Range-clause-fits g c = range-fits g.D.Depot c.args.self.now.limits (held_in c.args.self.now.numbers) c.next_item_from.new.into c.args.feed.now c.next_item_from.new.feed
    _ c.in-Some-Range.range (c.in-Some-Range.is ∙ ap Some c.in-Some-Range.field-0-is) c.in_ok-next_item_from.ensures.exact

pub returns-in-Some-Crl-clause-fits : goal.returns-in-Some-Crl-clause-fits
returns-in-Some-Crl-clause-fits g c = crl-fits g.D.Depot c.args.self.now.limits (held_in c.args.self.now.numbers) c.next_item_from.new.into c.args.feed.now c.next_item_from.new.feed
    _ c.in-Some-Crl.crl (c.in-Some-Crl.is ∙ ap Some c.in-Some-Crl.field-0-is) c.in_ok-next_item_from.ensures.exact

pub returns-in-Some-Entry-clause-fits : goal.returns-in-Some-Entry-clause-fits
returns-in-Some-Entry-clause-fits g c = entry-fits g.D.Depot c.args.self.now.limits (held_in c.args.self.now.numbers) c.next_item_from.new.into c.args.feed.now c.next_item_from.new.feed
    _ (c.in-Some-Entry.is ∙ ap Some c.in-Some-Entry.field-0-is) c.in_ok-next_item_from.ensures.exact
