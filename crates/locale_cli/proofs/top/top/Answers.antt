use Rattle.std.proofs.Common.{◌≡◌, [], Some, sym, ap, subst, ◌∙◌, arith}
use Rattle.std.proofs.KnownBytes.{Consumes-nil}
use Rattle.locale_cli.specs.declared.words.Mode.{Mode}
use Rattle.locale_cli.specs.declared.answer.Status.TheVariants.{Usage, ReadFault, TooLarge}
use Rattle.locale_cli.specs.declared.words.Mode.TheVariants.{Check}
use Rattle.locale_cli.specs.Request.{request_of}
use Rattle.locale_cli.specs.Run.{SourceStep, SinkStep}
use Rattle.locale_cli.specs.Status.{IsDone, IsCutShort}
use Rattle.locale_cli.proofs.Statuses.{ran_done, ran_refused, ran_cut, ran_due, ran_complete, ran_read_sound, ran_write_sound, is_checked}
use Rattle.locale_cli.proofs.Making.{same_mode, not_both, ran_as, made_done, made_refused, made_cut, made_due, made_complete, made_write_sound, made_write_fault, made_is_not, made_unwritten}
use Rattle.locale_cli.proofs.top.top.Goals as goal

pub returns-in-Some-Read-clause-done : goal.returns-in-Some-Read-clause-done
returns-in-Some-Read-clause-done g c = λ mode named e.
    let s : SourceStep = record { left = g.S.Source.left c.args.source.now; left' = g.S.Source.left c.run.new.source; faults = g.S.Source.faults c.args.source.now; faults' = g.S.Source.faults c.run.new.source } in
    let k : SinkStep = record { written = g.K.Sink.written c.args.sink.now; written' = g.K.Sink.written c.run.new.sink; faults = g.K.Sink.faults c.args.sink.now; faults' = g.K.Sink.faults c.run.new.sink } in
    let same : c.in-Some-Read.mode ≡ mode = same_mode (request_of c.args.words.now) c.in-Some-Read.mode mode (sym c.request_of.ensures.is ∙ c.in-Some-Read.is ∙ ap Some c.in-Some-Read.field-0-is) named in
    subst (λ (m : Mode). IsDone m s.left s.left' k.written k.written') same (ran_done c.in-Some-Read.mode s k (c.run.new.sink ≡ c.args.sink.now) c.run.result c.run.ensures.ran e)

pub returns-in-Some-Read-clause-checked : goal.returns-in-Some-Read-clause-checked
returns-in-Some-Read-clause-checked g c = λ named e.
    let s : SourceStep = record { left = g.S.Source.left c.args.source.now; left' = g.S.Source.left c.run.new.source; faults = g.S.Source.faults c.args.source.now; faults' = g.S.Source.faults c.run.new.source } in
    let k : SinkStep = record { written = g.K.Sink.written c.args.sink.now; written' = g.K.Sink.written c.run.new.sink; faults = g.K.Sink.faults c.args.sink.now; faults' = g.K.Sink.faults c.run.new.sink } in
    let same : c.in-Some-Read.mode ≡ Check = same_mode (request_of c.args.words.now) c.in-Some-Read.mode Check (sym c.request_of.ensures.is ∙ c.in-Some-Read.is ∙ ap Some c.in-Some-Read.field-0-is) named in
    is_checked s.left s.left' k.written k.written' (subst (λ (m : Mode). IsDone m s.left s.left' k.written k.written') same (ran_done c.in-Some-Read.mode s k (c.run.new.sink ≡ c.args.sink.now) c.run.result c.run.ensures.ran e))

pub returns-in-Some-Read-clause-refused : goal.returns-in-Some-Read-clause-refused
returns-in-Some-Read-clause-refused g c = λ mode named e.
    let s : SourceStep = record { left = g.S.Source.left c.args.source.now; left' = g.S.Source.left c.run.new.source; faults = g.S.Source.faults c.args.source.now; faults' = g.S.Source.faults c.run.new.source } in
    let k : SinkStep = record { written = g.K.Sink.written c.args.sink.now; written' = g.K.Sink.written c.run.new.sink; faults = g.K.Sink.faults c.args.sink.now; faults' = g.K.Sink.faults c.run.new.sink } in
    ran_refused c.in-Some-Read.mode s k (c.run.new.sink ≡ c.args.sink.now) c.run.result c.run.ensures.ran e

pub returns-in-Some-Read-clause-cut_short : goal.returns-in-Some-Read-clause-cut_short
returns-in-Some-Read-clause-cut_short g c = λ mode named e.
    let s : SourceStep = record { left = g.S.Source.left c.args.source.now; left' = g.S.Source.left c.run.new.source; faults = g.S.Source.faults c.args.source.now; faults' = g.S.Source.faults c.run.new.source } in
    let k : SinkStep = record { written = g.K.Sink.written c.args.sink.now; written' = g.K.Sink.written c.run.new.sink; faults = g.K.Sink.faults c.args.sink.now; faults' = g.K.Sink.faults c.run.new.sink } in
    let same : c.in-Some-Read.mode ≡ mode = same_mode (request_of c.args.words.now) c.in-Some-Read.mode mode (sym c.request_of.ensures.is ∙ c.in-Some-Read.is ∙ ap Some c.in-Some-Read.field-0-is) named in
    subst (λ (m : Mode). IsCutShort m s.left s.left' k.written k.written') same (ran_cut c.in-Some-Read.mode s k (c.run.new.sink ≡ c.args.sink.now) c.run.result c.run.ensures.ran e)

pub returns-in-Some-Read-clause-due : goal.returns-in-Some-Read-clause-due
returns-in-Some-Read-clause-due g c = λ mode named.
    let s : SourceStep = record { left = g.S.Source.left c.args.source.now; left' = g.S.Source.left c.run.new.source; faults = g.S.Source.faults c.args.source.now; faults' = g.S.Source.faults c.run.new.source } in
    let k : SinkStep = record { written = g.K.Sink.written c.args.sink.now; written' = g.K.Sink.written c.run.new.sink; faults = g.K.Sink.faults c.args.sink.now; faults' = g.K.Sink.faults c.run.new.sink } in
    ran_due c.in-Some-Read.mode s k (c.run.new.sink ≡ c.args.sink.now) c.run.result c.run.ensures.ran

pub returns-in-Some-Read-clause-complete : goal.returns-in-Some-Read-clause-complete
returns-in-Some-Read-clause-complete g c = λ mode named source sink.
    let s : SourceStep = record { left = g.S.Source.left c.args.source.now; left' = g.S.Source.left c.run.new.source; faults = g.S.Source.faults c.args.source.now; faults' = g.S.Source.faults c.run.new.source } in
    let k : SinkStep = record { written = g.K.Sink.written c.args.sink.now; written' = g.K.Sink.written c.run.new.sink; faults = g.K.Sink.faults c.args.sink.now; faults' = g.K.Sink.faults c.run.new.sink } in
    ran_complete c.in-Some-Read.mode s k (c.run.new.sink ≡ c.args.sink.now) c.run.result c.run.ensures.ran source sink

pub returns-in-Some-Read-clause-read_sound : goal.returns-in-Some-Read-clause-read_sound
returns-in-Some-Read-clause-read_sound g c = λ another.
    let s : SourceStep = record { left = g.S.Source.left c.args.source.now; left' = g.S.Source.left c.run.new.source; faults = g.S.Source.faults c.args.source.now; faults' = g.S.Source.faults c.run.new.source } in
    let k : SinkStep = record { written = g.K.Sink.written c.args.sink.now; written' = g.K.Sink.written c.run.new.sink; faults = g.K.Sink.faults c.args.sink.now; faults' = g.K.Sink.faults c.run.new.sink } in
    ran_read_sound c.in-Some-Read.mode s k (c.run.new.sink ≡ c.args.sink.now) c.run.result c.run.ensures.ran another

pub returns-in-Some-Read-clause-write_sound : goal.returns-in-Some-Read-clause-write_sound
returns-in-Some-Read-clause-write_sound g c = λ another.
    let s : SourceStep = record { left = g.S.Source.left c.args.source.now; left' = g.S.Source.left c.run.new.source; faults = g.S.Source.faults c.args.source.now; faults' = g.S.Source.faults c.run.new.source } in
    let k : SinkStep = record { written = g.K.Sink.written c.args.sink.now; written' = g.K.Sink.written c.run.new.sink; faults = g.K.Sink.faults c.args.sink.now; faults' = g.K.Sink.faults c.run.new.sink } in
    ran_write_sound c.in-Some-Read.mode s k (c.run.new.sink ≡ c.args.sink.now) c.run.result (ap g.K.Sink.faults) c.run.ensures.ran another

pub returns-in-None-clause-at_most : goal.returns-in-None-clause-at_most
returns-in-None-clause-at_most g c = ([], Consumes-nil (g.S.Source.left c.args.source.now), omega arith)

pub returns-in-Some-Read-clause-made_unread : goal.returns-in-Some-Read-clause-made_unread
returns-in-Some-Read-clause-made_unread g c = λ seed commands named. not_both (request_of c.args.words.now) c.in-Some-Read.mode seed commands (sym c.request_of.ensures.is ∙ c.in-Some-Read.is ∙ ap Some c.in-Some-Read.field-0-is) named

pub returns-in-Some-Read-clause-made : goal.returns-in-Some-Read-clause-made
returns-in-Some-Read-clause-made g c = λ seed commands named e. not_both (request_of c.args.words.now) c.in-Some-Read.mode seed commands (sym c.request_of.ensures.is ∙ c.in-Some-Read.is ∙ ap Some c.in-Some-Read.field-0-is) named

pub returns-in-Some-Read-clause-made_refused : goal.returns-in-Some-Read-clause-made_refused
returns-in-Some-Read-clause-made_refused g c = λ seed commands named e. not_both (request_of c.args.words.now) c.in-Some-Read.mode seed commands (sym c.request_of.ensures.is ∙ c.in-Some-Read.is ∙ ap Some c.in-Some-Read.field-0-is) named

pub returns-in-Some-Read-clause-made_cut : goal.returns-in-Some-Read-clause-made_cut
returns-in-Some-Read-clause-made_cut g c = λ seed commands named e. not_both (request_of c.args.words.now) c.in-Some-Read.mode seed commands (sym c.request_of.ensures.is ∙ c.in-Some-Read.is ∙ ap Some c.in-Some-Read.field-0-is) named

pub returns-in-Some-Read-clause-made_due : goal.returns-in-Some-Read-clause-made_due
returns-in-Some-Read-clause-made_due g c = λ seed commands named. not_both (request_of c.args.words.now) c.in-Some-Read.mode seed commands (sym c.request_of.ensures.is ∙ c.in-Some-Read.is ∙ ap Some c.in-Some-Read.field-0-is) named

pub returns-in-Some-Read-clause-made_complete : goal.returns-in-Some-Read-clause-made_complete
returns-in-Some-Read-clause-made_complete g c = λ seed commands named sound. not_both (request_of c.args.words.now) c.in-Some-Read.mode seed commands (sym c.request_of.ensures.is ∙ c.in-Some-Read.is ∙ ap Some c.in-Some-Read.field-0-is) named

pub returns-in-Some-Make-clause-done : goal.returns-in-Some-Make-clause-done
returns-in-Some-Make-clause-done g c = λ mode named e. not_both (request_of c.args.words.now) mode c.in-Some-Make.seed c.in-Some-Make.commands named (sym c.request_of.ensures.is ∙ c.in-Some-Make.is ∙ ap Some c.in-Some-Make.field-0-is)

pub returns-in-Some-Make-clause-checked : goal.returns-in-Some-Make-clause-checked
returns-in-Some-Make-clause-checked g c = λ named e. not_both (request_of c.args.words.now) Check c.in-Some-Make.seed c.in-Some-Make.commands named (sym c.request_of.ensures.is ∙ c.in-Some-Make.is ∙ ap Some c.in-Some-Make.field-0-is)

pub returns-in-Some-Make-clause-refused : goal.returns-in-Some-Make-clause-refused
returns-in-Some-Make-clause-refused g c = λ mode named e. not_both (request_of c.args.words.now) mode c.in-Some-Make.seed c.in-Some-Make.commands named (sym c.request_of.ensures.is ∙ c.in-Some-Make.is ∙ ap Some c.in-Some-Make.field-0-is)

pub returns-in-Some-Make-clause-cut_short : goal.returns-in-Some-Make-clause-cut_short
returns-in-Some-Make-clause-cut_short g c = λ mode named e. not_both (request_of c.args.words.now) mode c.in-Some-Make.seed c.in-Some-Make.commands named (sym c.request_of.ensures.is ∙ c.in-Some-Make.is ∙ ap Some c.in-Some-Make.field-0-is)

pub returns-in-Some-Make-clause-due : goal.returns-in-Some-Make-clause-due
returns-in-Some-Make-clause-due g c = λ mode named. not_both (request_of c.args.words.now) mode c.in-Some-Make.seed c.in-Some-Make.commands named (sym c.request_of.ensures.is ∙ c.in-Some-Make.is ∙ ap Some c.in-Some-Make.field-0-is)

pub returns-in-Some-Make-clause-complete : goal.returns-in-Some-Make-clause-complete
returns-in-Some-Make-clause-complete g c = λ mode named source sink. not_both (request_of c.args.words.now) mode c.in-Some-Make.seed c.in-Some-Make.commands named (sym c.request_of.ensures.is ∙ c.in-Some-Make.is ∙ ap Some c.in-Some-Make.field-0-is)

pub returns-in-Some-Make-clause-usage_only : goal.returns-in-Some-Make-clause-usage_only
returns-in-Some-Make-clause-usage_only g c = λ e.
    let k : SinkStep = record { written = g.K.Sink.written c.args.sink.now; written' = g.K.Sink.written c.make.new.sink; faults = g.K.Sink.faults c.args.sink.now; faults' = g.K.Sink.faults c.make.new.sink } in
    made_is_not c.in-Some-Make.seed c.in-Some-Make.commands k (c.make.new.sink ≡ c.args.sink.now) c.make.result Usage (λ q. cc) (λ q. cc) (λ q. cc) (λ q. cc) c.make.ensures e

pub returns-in-Some-Make-clause-too_large : goal.returns-in-Some-Make-clause-too_large
returns-in-Some-Make-clause-too_large g c = λ e.
    let k : SinkStep = record { written = g.K.Sink.written c.args.sink.now; written' = g.K.Sink.written c.make.new.sink; faults = g.K.Sink.faults c.args.sink.now; faults' = g.K.Sink.faults c.make.new.sink } in
    made_is_not c.in-Some-Make.seed c.in-Some-Make.commands k (c.make.new.sink ≡ c.args.sink.now) c.make.result TooLarge (λ q. cc) (λ q. cc) (λ q. cc) (λ q. cc) c.make.ensures e

pub returns-in-Some-Make-clause-read_fault : goal.returns-in-Some-Make-clause-read_fault
returns-in-Some-Make-clause-read_fault g c = λ e.
    let k : SinkStep = record { written = g.K.Sink.written c.args.sink.now; written' = g.K.Sink.written c.make.new.sink; faults = g.K.Sink.faults c.args.sink.now; faults' = g.K.Sink.faults c.make.new.sink } in
    made_is_not c.in-Some-Make.seed c.in-Some-Make.commands k (c.make.new.sink ≡ c.args.sink.now) c.make.result ReadFault (λ q. cc) (λ q. cc) (λ q. cc) (λ q. cc) c.make.ensures e

pub returns-in-Some-Make-clause-read_short : goal.returns-in-Some-Make-clause-read_short
returns-in-Some-Make-clause-read_short g c = λ e.
    let k : SinkStep = record { written = g.K.Sink.written c.args.sink.now; written' = g.K.Sink.written c.make.new.sink; faults = g.K.Sink.faults c.args.sink.now; faults' = g.K.Sink.faults c.make.new.sink } in
    made_is_not c.in-Some-Make.seed c.in-Some-Make.commands k (c.make.new.sink ≡ c.args.sink.now) c.make.result ReadFault (λ q. cc) (λ q. cc) (λ q. cc) (λ q. cc) c.make.ensures e

pub returns-in-Some-Make-clause-at_most : goal.returns-in-Some-Make-clause-at_most
returns-in-Some-Make-clause-at_most g c = ([], Consumes-nil (g.S.Source.left c.args.source.now), omega arith)

pub returns-in-Some-Make-clause-write_fault : goal.returns-in-Some-Make-clause-write_fault
returns-in-Some-Make-clause-write_fault g c = λ e.
    let k : SinkStep = record { written = g.K.Sink.written c.args.sink.now; written' = g.K.Sink.written c.make.new.sink; faults = g.K.Sink.faults c.args.sink.now; faults' = g.K.Sink.faults c.make.new.sink } in
    made_write_fault c.in-Some-Make.seed c.in-Some-Make.commands k (c.make.new.sink ≡ c.args.sink.now) c.make.result c.make.ensures e

pub returns-in-Some-Make-clause-write_sound : goal.returns-in-Some-Make-clause-write_sound
returns-in-Some-Make-clause-write_sound g c = λ another.
    let k : SinkStep = record { written = g.K.Sink.written c.args.sink.now; written' = g.K.Sink.written c.make.new.sink; faults = g.K.Sink.faults c.args.sink.now; faults' = g.K.Sink.faults c.make.new.sink } in
    made_write_sound c.in-Some-Make.seed c.in-Some-Make.commands k (c.make.new.sink ≡ c.args.sink.now) c.make.result (ap g.K.Sink.faults) c.make.ensures another

pub returns-in-Some-Make-clause-unwritten : goal.returns-in-Some-Make-clause-unwritten
returns-in-Some-Make-clause-unwritten g c = λ e.
    let k : SinkStep = record { written = g.K.Sink.written c.args.sink.now; written' = g.K.Sink.written c.make.new.sink; faults = g.K.Sink.faults c.args.sink.now; faults' = g.K.Sink.faults c.make.new.sink } in
    made_unwritten c.in-Some-Make.seed c.in-Some-Make.commands k (c.make.new.sink ≡ c.args.sink.now) c.make.result c.make.ensures e

pub returns-in-Some-Make-clause-made : goal.returns-in-Some-Make-clause-made
returns-in-Some-Make-clause-made g c = λ seed commands named e.
    let k : SinkStep = record { written = g.K.Sink.written c.args.sink.now; written' = g.K.Sink.written c.make.new.sink; faults = g.K.Sink.faults c.args.sink.now; faults' = g.K.Sink.faults c.make.new.sink } in
    made_done seed commands k (c.make.new.sink ≡ c.args.sink.now) c.make.result (ran_as (request_of c.args.words.now) c.in-Some-Make.seed c.in-Some-Make.commands seed commands (sym c.request_of.ensures.is ∙ c.in-Some-Make.is ∙ ap Some c.in-Some-Make.field-0-is) named k (c.make.new.sink ≡ c.args.sink.now) c.make.result c.make.ensures) e

pub returns-in-Some-Make-clause-made_refused : goal.returns-in-Some-Make-clause-made_refused
returns-in-Some-Make-clause-made_refused g c = λ seed commands named e.
    let k : SinkStep = record { written = g.K.Sink.written c.args.sink.now; written' = g.K.Sink.written c.make.new.sink; faults = g.K.Sink.faults c.args.sink.now; faults' = g.K.Sink.faults c.make.new.sink } in
    made_refused seed commands k (c.make.new.sink ≡ c.args.sink.now) c.make.result (ran_as (request_of c.args.words.now) c.in-Some-Make.seed c.in-Some-Make.commands seed commands (sym c.request_of.ensures.is ∙ c.in-Some-Make.is ∙ ap Some c.in-Some-Make.field-0-is) named k (c.make.new.sink ≡ c.args.sink.now) c.make.result c.make.ensures) e

pub returns-in-Some-Make-clause-made_cut : goal.returns-in-Some-Make-clause-made_cut
returns-in-Some-Make-clause-made_cut g c = λ seed commands named e.
    let k : SinkStep = record { written = g.K.Sink.written c.args.sink.now; written' = g.K.Sink.written c.make.new.sink; faults = g.K.Sink.faults c.args.sink.now; faults' = g.K.Sink.faults c.make.new.sink } in
    made_cut seed commands k (c.make.new.sink ≡ c.args.sink.now) c.make.result (ran_as (request_of c.args.words.now) c.in-Some-Make.seed c.in-Some-Make.commands seed commands (sym c.request_of.ensures.is ∙ c.in-Some-Make.is ∙ ap Some c.in-Some-Make.field-0-is) named k (c.make.new.sink ≡ c.args.sink.now) c.make.result c.make.ensures) e

pub returns-in-Some-Make-clause-made_due : goal.returns-in-Some-Make-clause-made_due
returns-in-Some-Make-clause-made_due g c = λ seed commands named.
    let k : SinkStep = record { written = g.K.Sink.written c.args.sink.now; written' = g.K.Sink.written c.make.new.sink; faults = g.K.Sink.faults c.args.sink.now; faults' = g.K.Sink.faults c.make.new.sink } in
    made_due seed commands k (c.make.new.sink ≡ c.args.sink.now) c.make.result (ran_as (request_of c.args.words.now) c.in-Some-Make.seed c.in-Some-Make.commands seed commands (sym c.request_of.ensures.is ∙ c.in-Some-Make.is ∙ ap Some c.in-Some-Make.field-0-is) named k (c.make.new.sink ≡ c.args.sink.now) c.make.result c.make.ensures)

pub returns-in-Some-Make-clause-made_complete : goal.returns-in-Some-Make-clause-made_complete
returns-in-Some-Make-clause-made_complete g c = λ seed commands named sound.
    let k : SinkStep = record { written = g.K.Sink.written c.args.sink.now; written' = g.K.Sink.written c.make.new.sink; faults = g.K.Sink.faults c.args.sink.now; faults' = g.K.Sink.faults c.make.new.sink } in
    made_complete seed commands k (c.make.new.sink ≡ c.args.sink.now) c.make.result (ran_as (request_of c.args.words.now) c.in-Some-Make.seed c.in-Some-Make.commands seed commands (sym c.request_of.ensures.is ∙ c.in-Some-Make.is ∙ ap Some c.in-Some-Make.field-0-is) named k (c.make.new.sink ≡ c.args.sink.now) c.make.result c.make.ensures) sound
