use Rattle.std.proofs.Common.{[], Ok, Err, ap, refl}
use Rattle.command_core.specs.declared.answer.Answer.TheVariants as answers
use Rattle.input_core.specs.Readings.{store_in}
use Rattle.input_core.specs.Certificates.{certificate_in, issuer_in}
use Rattle.word_core.specs.declared.command.Command.TheVariants as commands
use Rattle.outside_core.specs.Reads.{WhichFailed}
use Rattle.command_core.specs.Replies.{with_files}
use Rattle.command_core.proofs.QueryCerts.{both_only, well_before, none_before, input_behind, no_cert, no_issuer, query_cert_made}
use Rattle.command_core.proofs.Replying.{first_refused}
use Rattle.command_core.proofs.commands.answer_query_cert.Goals as goal

pub returns-in-Err-clause-reply : goal.returns-in-Err-clause-reply
returns-in-Err-clause-reply g c =
    first_refused (g.D.Depot.files c.args.depot.now) (WhichFailed g.D.Depot c.args.depot.now _) c.refused.result (commands.QueryCert c.args.query.now) c.args.query.now.store _ store_in (λ s. s) c.in-Err.fault refl (λ at h. h)
    (rw c.as_str.ensures at c.in-Err.ensures.input) c.refused.ensures.memory (rw c.as_str-in-Err.ensures at c.refused.ensures.ok)

pub returns-in-Err-certificate_in-clause-reply : goal.returns-in-Err-certificate_in-clause-reply
returns-in-Err-certificate_in-clause-reply g c =
    let store = rw c.as_str.ensures at c.in-Ok.ensures.input in
    let none = none_before g.D.Depot c.args.depot.now _ c.args.query.now.store store_in (λ s. s) c.in-Ok.store store in
    no_cert (g.D.Depot.files c.args.depot.now) (WhichFailed g.D.Depot c.args.depot.now _) c.refused-in-Err-certificate_in.result c.args.query.now c.in-Ok.store
    (well_before g.D.Depot c.args.depot.now _ _ c.args.query.now.store store_in (λ s. s) c.in-Ok.store store) (λ x. x) c.in-Err-certificate_in.fault
    (input_behind g.D.Depot c.args.depot.now _ _ c.args.query.now.cert certificate_in (λ x. x) (Err c.in-Err-certificate_in.fault) c.in-Ok.ensures.only_reads none
    (rw c.as_str-2.ensures at c.in-Err-certificate_in.ensures.input))
    c.refused-in-Err-certificate_in.ensures.memory (rw c.as_str-in-Err-certificate_in.ensures at c.refused-in-Err-certificate_in.ensures.ok)

pub returns-in-Ok-issuer_in-clause-reply : goal.returns-in-Ok-issuer_in-clause-reply
returns-in-Ok-issuer_in-clause-reply g c =
    let store = rw c.as_str.ensures at c.in-Ok.ensures.input in
    let none = none_before g.D.Depot c.args.depot.now _ c.args.query.now.store store_in (λ s. s) c.in-Ok.store store in
    let cert = input_behind g.D.Depot c.args.depot.now _ _ c.args.query.now.cert certificate_in (λ x. x) (Ok c.in-Ok-certificate_in.cert) c.in-Ok.ensures.only_reads none
    (rw c.as_str-2.ensures at c.in-Ok-certificate_in.ensures.input) in
    let none_yet = none_before g.D.Depot c.args.depot.now _ c.args.query.now.cert certificate_in (λ x. x) c.in-Ok-certificate_in.cert cert in
    let reads_ = both_only g.D.Depot c.args.depot.now _ _ c.in-Ok.ensures.only_reads c.in-Ok-certificate_in.ensures.only_reads in
    query_cert_made (g.D.Depot.files c.args.depot.now) (WhichFailed g.D.Depot c.args.depot.now _) (Ok (answers.Reply c.verdict.result)) c.args.query.now c.in-Ok.store
    (well_before g.D.Depot c.args.depot.now _ _ c.args.query.now.store store_in (λ s. s) c.in-Ok.store store) c.in-Ok-certificate_in.cert
    (well_before g.D.Depot c.args.depot.now _ _ c.args.query.now.cert certificate_in (λ x. x) c.in-Ok-certificate_in.cert cert) (λ x. x) c.in-Ok-issuer_in.issuer
    (input_behind g.D.Depot c.args.depot.now _ _ c.args.query.now.issuer_cert issuer_in (λ x. x) (Ok c.in-Ok-issuer_in.issuer) reads_ none_yet
    (rw c.as_str-3.ensures at c.in-Ok-issuer_in.ensures.input))
    (ap (with_files []) (rw (c.says-verdict.ensures, c.sightings.ensures.value) at c.verdict.ensures))

pub returns-clause-reply : goal.returns-clause-reply
returns-clause-reply g c =
    let store = rw c.as_str.ensures at c.in-Ok.ensures.input in
    let none = none_before g.D.Depot c.args.depot.now _ c.args.query.now.store store_in (λ s. s) c.in-Ok.store store in
    let cert = input_behind g.D.Depot c.args.depot.now _ _ c.args.query.now.cert certificate_in (λ x. x) (Ok c.in-Ok-certificate_in.cert) c.in-Ok.ensures.only_reads none
    (rw c.as_str-2.ensures at c.in-Ok-certificate_in.ensures.input) in
    let none_yet = none_before g.D.Depot c.args.depot.now _ c.args.query.now.cert certificate_in (λ x. x) c.in-Ok-certificate_in.cert cert in
    let reads_ = both_only g.D.Depot c.args.depot.now _ _ c.in-Ok.ensures.only_reads c.in-Ok-certificate_in.ensures.only_reads in
    no_issuer (g.D.Depot.files c.args.depot.now) (WhichFailed g.D.Depot c.args.depot.now _) c.refused-in-Err-issuer_in.result c.args.query.now c.in-Ok.store
    (well_before g.D.Depot c.args.depot.now _ _ c.args.query.now.store store_in (λ s. s) c.in-Ok.store store) c.in-Ok-certificate_in.cert
    (well_before g.D.Depot c.args.depot.now _ _ c.args.query.now.cert certificate_in (λ x. x) c.in-Ok-certificate_in.cert cert) (λ x. x) c.in-Err-issuer_in.fault
    (input_behind g.D.Depot c.args.depot.now _ _ c.args.query.now.issuer_cert issuer_in (λ x. x) (Err c.in-Err-issuer_in.fault) reads_ none_yet
    (rw c.as_str-3.ensures at c.in-Err-issuer_in.ensures.input))
    c.refused-in-Err-issuer_in.ensures.memory (rw c.as_str-in-Err-issuer_in.ensures at c.refused-in-Err-issuer_in.ensures.ok)
