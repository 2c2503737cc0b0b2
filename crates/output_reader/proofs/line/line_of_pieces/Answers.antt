use Rattle.std.proofs.Common.{[], ◌∷◌, ◌++◌, get_or, sym, arith, lit<}
use Rattle.std.specs.Fmt.{decimal}
use Rattle.std.proofs.lemmas.Result.{err_from_is_err_and}
use Rattle.script_out.specs.Output.{places_text, version_text, reply_text}
use Rattle.output_reader.proofs.Lacking.{decimal_lacks, name_lacks}
use Rattle.output_reader.proofs.LineTexts.{bytes_are, places_lack, version_lacks, line_same, line_text_same}
use Rattle.output_reader.proofs.line.line_of_pieces.Goals as goal

pub returns-in_err-round_digits-clause-back : goal.returns-in_err-round_digits-clause-back
returns-in_err-round_digits-clause-back c = λ l fits is.
    let whole = bytes_are c.args.threads.now l c.args.bytes.now is in
    absurd (c.in_err-round_digits.ensures.back (decimal l.round) (get_or c.args.threads.now l.thread [] ++ 32 ∷ (decimal l.index ++ 32 ∷ (places_text l.places ++ 32 ∷ (version_text l.global ++ 32 ∷ (reply_text c.args.threads.now l.reply))))) (decimal_lacks l.round 32 (omega (arith, fits.round)) (lit< tt)) whole)

pub returns-in_err-name-clause-back : goal.returns-in_err-name-clause-back
returns-in_err-name-clause-back c = λ l fits is.
    let whole = bytes_are c.args.threads.now l c.args.bytes.now is in
    let cut = c.in_ok-round_digits.ensures.back (decimal l.round) (get_or c.args.threads.now l.thread [] ++ 32 ∷ (decimal l.index ++ 32 ∷ (places_text l.places ++ 32 ∷ (version_text l.global ++ 32 ∷ (reply_text c.args.threads.now l.reply))))) (decimal_lacks l.round 32 (omega (arith, fits.round)) (lit< tt)) whole in
    absurd (c.in_err-name.ensures.back (get_or c.args.threads.now l.thread []) (decimal l.index ++ 32 ∷ (places_text l.places ++ 32 ∷ (version_text l.global ++ 32 ∷ (reply_text c.args.threads.now l.reply)))) (name_lacks c.args.threads.now l.thread 32 c.requires fits.thread.0 (lit< tt)) cut.1)

pub returns-in_err-index_digits-clause-back : goal.returns-in_err-index_digits-clause-back
returns-in_err-index_digits-clause-back c = λ l fits is.
    let whole = bytes_are c.args.threads.now l c.args.bytes.now is in
    let cut = c.in_ok-round_digits.ensures.back (decimal l.round) (get_or c.args.threads.now l.thread [] ++ 32 ∷ (decimal l.index ++ 32 ∷ (places_text l.places ++ 32 ∷ (version_text l.global ++ 32 ∷ (reply_text c.args.threads.now l.reply))))) (decimal_lacks l.round 32 (omega (arith, fits.round)) (lit< tt)) whole in
    let cut_name = c.in_ok-name.ensures.back (get_or c.args.threads.now l.thread []) (decimal l.index ++ 32 ∷ (places_text l.places ++ 32 ∷ (version_text l.global ++ 32 ∷ (reply_text c.args.threads.now l.reply)))) (name_lacks c.args.threads.now l.thread 32 c.requires fits.thread.0 (lit< tt)) cut.1 in
    absurd (c.in_err-index_digits.ensures.back (decimal l.index) (places_text l.places ++ 32 ∷ (version_text l.global ++ 32 ∷ (reply_text c.args.threads.now l.reply))) (decimal_lacks l.index 32 (omega (arith, fits.index)) (lit< tt)) cut_name.1)

pub returns-in_err-place_digits-clause-back : goal.returns-in_err-place_digits-clause-back
returns-in_err-place_digits-clause-back c = λ l fits is.
    let whole = bytes_are c.args.threads.now l c.args.bytes.now is in
    let cut = c.in_ok-round_digits.ensures.back (decimal l.round) (get_or c.args.threads.now l.thread [] ++ 32 ∷ (decimal l.index ++ 32 ∷ (places_text l.places ++ 32 ∷ (version_text l.global ++ 32 ∷ (reply_text c.args.threads.now l.reply))))) (decimal_lacks l.round 32 (omega (arith, fits.round)) (lit< tt)) whole in
    let cut_name = c.in_ok-name.ensures.back (get_or c.args.threads.now l.thread []) (decimal l.index ++ 32 ∷ (places_text l.places ++ 32 ∷ (version_text l.global ++ 32 ∷ (reply_text c.args.threads.now l.reply)))) (name_lacks c.args.threads.now l.thread 32 c.requires fits.thread.0 (lit< tt)) cut.1 in
    let cut_index = c.in_ok-index_digits.ensures.back (decimal l.index) (places_text l.places ++ 32 ∷ (version_text l.global ++ 32 ∷ (reply_text c.args.threads.now l.reply))) (decimal_lacks l.index 32 (omega (arith, fits.index)) (lit< tt)) cut_name.1 in
    absurd (c.in_err-place_digits.ensures.back (places_text l.places) (version_text l.global ++ 32 ∷ (reply_text c.args.threads.now l.reply)) (places_lack l.places fits.places) cut_index.1)

pub returns-in_err-version_digits-clause-back : goal.returns-in_err-version_digits-clause-back
returns-in_err-version_digits-clause-back c = λ l fits is.
    let whole = bytes_are c.args.threads.now l c.args.bytes.now is in
    let cut = c.in_ok-round_digits.ensures.back (decimal l.round) (get_or c.args.threads.now l.thread [] ++ 32 ∷ (decimal l.index ++ 32 ∷ (places_text l.places ++ 32 ∷ (version_text l.global ++ 32 ∷ (reply_text c.args.threads.now l.reply))))) (decimal_lacks l.round 32 (omega (arith, fits.round)) (lit< tt)) whole in
    let cut_name = c.in_ok-name.ensures.back (get_or c.args.threads.now l.thread []) (decimal l.index ++ 32 ∷ (places_text l.places ++ 32 ∷ (version_text l.global ++ 32 ∷ (reply_text c.args.threads.now l.reply)))) (name_lacks c.args.threads.now l.thread 32 c.requires fits.thread.0 (lit< tt)) cut.1 in
    let cut_index = c.in_ok-index_digits.ensures.back (decimal l.index) (places_text l.places ++ 32 ∷ (version_text l.global ++ 32 ∷ (reply_text c.args.threads.now l.reply))) (decimal_lacks l.index 32 (omega (arith, fits.index)) (lit< tt)) cut_name.1 in
    let cut_places = c.in_ok-place_digits.ensures.back (places_text l.places) (version_text l.global ++ 32 ∷ (reply_text c.args.threads.now l.reply)) (places_lack l.places fits.places) cut_index.1 in
    absurd (c.in_err-version_digits.ensures.back (version_text l.global) (reply_text c.args.threads.now l.reply) (version_lacks l.global fits.global) cut_places.1)

pub returns-in_err-round-clause-back : goal.returns-in_err-round-clause-back
returns-in_err-round-clause-back c = λ l fits is.
    let whole = bytes_are c.args.threads.now l c.args.bytes.now is in
    let cut = c.in_ok-round_digits.ensures.back (decimal l.round) (get_or c.args.threads.now l.thread [] ++ 32 ∷ (decimal l.index ++ 32 ∷ (places_text l.places ++ 32 ∷ (version_text l.global ++ 32 ∷ (reply_text c.args.threads.now l.reply))))) (decimal_lacks l.round 32 (omega (arith, fits.round)) (lit< tt)) whole in
    let cut_name = c.in_ok-name.ensures.back (get_or c.args.threads.now l.thread []) (decimal l.index ++ 32 ∷ (places_text l.places ++ 32 ∷ (version_text l.global ++ 32 ∷ (reply_text c.args.threads.now l.reply)))) (name_lacks c.args.threads.now l.thread 32 c.requires fits.thread.0 (lit< tt)) cut.1 in
    let cut_index = c.in_ok-index_digits.ensures.back (decimal l.index) (places_text l.places ++ 32 ∷ (version_text l.global ++ 32 ∷ (reply_text c.args.threads.now l.reply))) (decimal_lacks l.index 32 (omega (arith, fits.index)) (lit< tt)) cut_name.1 in
    let cut_places = c.in_ok-place_digits.ensures.back (places_text l.places) (version_text l.global ++ 32 ∷ (reply_text c.args.threads.now l.reply)) (places_lack l.places fits.places) cut_index.1 in
    let cut_version = c.in_ok-version_digits.ensures.back (version_text l.global) (reply_text c.args.threads.now l.reply) (version_lacks l.global fits.global) cut_places.1 in
    let p = err_from_is_err_and c.from_residual-in_err-round.result c.from_residual-in_err-round.ensures.1 in
    rw (p.1, p.2) (c.in_err-round.ensures.back l.round fits.round (sym cut.0))

pub returns-in_err-thread-clause-back : goal.returns-in_err-thread-clause-back
returns-in_err-thread-clause-back c = λ l fits is.
    let whole = bytes_are c.args.threads.now l c.args.bytes.now is in
    let cut = c.in_ok-round_digits.ensures.back (decimal l.round) (get_or c.args.threads.now l.thread [] ++ 32 ∷ (decimal l.index ++ 32 ∷ (places_text l.places ++ 32 ∷ (version_text l.global ++ 32 ∷ (reply_text c.args.threads.now l.reply))))) (decimal_lacks l.round 32 (omega (arith, fits.round)) (lit< tt)) whole in
    let cut_name = c.in_ok-name.ensures.back (get_or c.args.threads.now l.thread []) (decimal l.index ++ 32 ∷ (places_text l.places ++ 32 ∷ (version_text l.global ++ 32 ∷ (reply_text c.args.threads.now l.reply)))) (name_lacks c.args.threads.now l.thread 32 c.requires fits.thread.0 (lit< tt)) cut.1 in
    let cut_index = c.in_ok-index_digits.ensures.back (decimal l.index) (places_text l.places ++ 32 ∷ (version_text l.global ++ 32 ∷ (reply_text c.args.threads.now l.reply))) (decimal_lacks l.index 32 (omega (arith, fits.index)) (lit< tt)) cut_name.1 in
    let cut_places = c.in_ok-place_digits.ensures.back (places_text l.places) (version_text l.global ++ 32 ∷ (reply_text c.args.threads.now l.reply)) (places_lack l.places fits.places) cut_index.1 in
    let cut_version = c.in_ok-version_digits.ensures.back (version_text l.global) (reply_text c.args.threads.now l.reply) (version_lacks l.global fits.global) cut_places.1 in
    let p = err_from_is_err_and c.from_residual-in_err-thread.result c.from_residual-in_err-thread.ensures.1 in
    rw (p.1, p.2) (c.in_err-thread.ensures.back l.thread fits.thread (sym cut_name.0))

pub returns-in_err-index-clause-back : goal.returns-in_err-index-clause-back
returns-in_err-index-clause-back c = λ l fits is.
    let whole = bytes_are c.args.threads.now l c.args.bytes.now is in
    let cut = c.in_ok-round_digits.ensures.back (decimal l.round) (get_or c.args.threads.now l.thread [] ++ 32 ∷ (decimal l.index ++ 32 ∷ (places_text l.places ++ 32 ∷ (version_text l.global ++ 32 ∷ (reply_text c.args.threads.now l.reply))))) (decimal_lacks l.round 32 (omega (arith, fits.round)) (lit< tt)) whole in
    let cut_name = c.in_ok-name.ensures.back (get_or c.args.threads.now l.thread []) (decimal l.index ++ 32 ∷ (places_text l.places ++ 32 ∷ (version_text l.global ++ 32 ∷ (reply_text c.args.threads.now l.reply)))) (name_lacks c.args.threads.now l.thread 32 c.requires fits.thread.0 (lit< tt)) cut.1 in
    let cut_index = c.in_ok-index_digits.ensures.back (decimal l.index) (places_text l.places ++ 32 ∷ (version_text l.global ++ 32 ∷ (reply_text c.args.threads.now l.reply))) (decimal_lacks l.index 32 (omega (arith, fits.index)) (lit< tt)) cut_name.1 in
    let cut_places = c.in_ok-place_digits.ensures.back (places_text l.places) (version_text l.global ++ 32 ∷ (reply_text c.args.threads.now l.reply)) (places_lack l.places fits.places) cut_index.1 in
    let cut_version = c.in_ok-version_digits.ensures.back (version_text l.global) (reply_text c.args.threads.now l.reply) (version_lacks l.global fits.global) cut_places.1 in
    let p = err_from_is_err_and c.from_residual-in_err-index.result c.from_residual-in_err-index.ensures.1 in
    rw (p.1, p.2) (c.in_err-index.ensures.back l.index fits.index (sym cut_index.0))

pub returns-in_err-places-clause-back : goal.returns-in_err-places-clause-back
returns-in_err-places-clause-back c = λ l fits is.
    let whole = bytes_are c.args.threads.now l c.args.bytes.now is in
    let cut = c.in_ok-round_digits.ensures.back (decimal l.round) (get_or c.args.threads.now l.thread [] ++ 32 ∷ (decimal l.index ++ 32 ∷ (places_text l.places ++ 32 ∷ (version_text l.global ++ 32 ∷ (reply_text c.args.threads.now l.reply))))) (decimal_lacks l.round 32 (omega (arith, fits.round)) (lit< tt)) whole in
    let cut_name = c.in_ok-name.ensures.back (get_or c.args.threads.now l.thread []) (decimal l.index ++ 32 ∷ (places_text l.places ++ 32 ∷ (version_text l.global ++ 32 ∷ (reply_text c.args.threads.now l.reply)))) (name_lacks c.args.threads.now l.thread 32 c.requires fits.thread.0 (lit< tt)) cut.1 in
    let cut_index = c.in_ok-index_digits.ensures.back (decimal l.index) (places_text l.places ++ 32 ∷ (version_text l.global ++ 32 ∷ (reply_text c.args.threads.now l.reply))) (decimal_lacks l.index 32 (omega (arith, fits.index)) (lit< tt)) cut_name.1 in
    let cut_places = c.in_ok-place_digits.ensures.back (places_text l.places) (version_text l.global ++ 32 ∷ (reply_text c.args.threads.now l.reply)) (places_lack l.places fits.places) cut_index.1 in
    let cut_version = c.in_ok-version_digits.ensures.back (version_text l.global) (reply_text c.args.threads.now l.reply) (version_lacks l.global fits.global) cut_places.1 in
    let p = err_from_is_err_and c.from_residual-in_err-places.result c.from_residual-in_err-places.ensures.1 in
    rw (p.1, p.2) (c.in_err-places.ensures.back l.places fits.places (sym cut_places.0))

pub returns-in_err-global-clause-back : goal.returns-in_err-global-clause-back
returns-in_err-global-clause-back c = λ l fits is.
    let whole = bytes_are c.args.threads.now l c.args.bytes.now is in
    let cut = c.in_ok-round_digits.ensures.back (decimal l.round) (get_or c.args.threads.now l.thread [] ++ 32 ∷ (decimal l.index ++ 32 ∷ (places_text l.places ++ 32 ∷ (version_text l.global ++ 32 ∷ (reply_text c.args.threads.now l.reply))))) (decimal_lacks l.round 32 (omega (arith, fits.round)) (lit< tt)) whole in
    let cut_name = c.in_ok-name.ensures.back (get_or c.args.threads.now l.thread []) (decimal l.index ++ 32 ∷ (places_text l.places ++ 32 ∷ (version_text l.global ++ 32 ∷ (reply_text c.args.threads.now l.reply)))) (name_lacks c.args.threads.now l.thread 32 c.requires fits.thread.0 (lit< tt)) cut.1 in
    let cut_index = c.in_ok-index_digits.ensures.back (decimal l.index) (places_text l.places ++ 32 ∷ (version_text l.global ++ 32 ∷ (reply_text c.args.threads.now l.reply))) (decimal_lacks l.index 32 (omega (arith, fits.index)) (lit< tt)) cut_name.1 in
    let cut_places = c.in_ok-place_digits.ensures.back (places_text l.places) (version_text l.global ++ 32 ∷ (reply_text c.args.threads.now l.reply)) (places_lack l.places fits.places) cut_index.1 in
    let cut_version = c.in_ok-version_digits.ensures.back (version_text l.global) (reply_text c.args.threads.now l.reply) (version_lacks l.global fits.global) cut_places.1 in
    let p = err_from_is_err_and c.from_residual-in_err-global.result c.from_residual-in_err-global.ensures.1 in
    rw (p.1, p.2) (c.in_err-global.ensures.back l.global fits.global (sym cut_version.0))

pub returns-in_err-reply-clause-back : goal.returns-in_err-reply-clause-back
returns-in_err-reply-clause-back c = λ l fits is.
    let whole = bytes_are c.args.threads.now l c.args.bytes.now is in
    let cut = c.in_ok-round_digits.ensures.back (decimal l.round) (get_or c.args.threads.now l.thread [] ++ 32 ∷ (decimal l.index ++ 32 ∷ (places_text l.places ++ 32 ∷ (version_text l.global ++ 32 ∷ (reply_text c.args.threads.now l.reply))))) (decimal_lacks l.round 32 (omega (arith, fits.round)) (lit< tt)) whole in
    let cut_name = c.in_ok-name.ensures.back (get_or c.args.threads.now l.thread []) (decimal l.index ++ 32 ∷ (places_text l.places ++ 32 ∷ (version_text l.global ++ 32 ∷ (reply_text c.args.threads.now l.reply)))) (name_lacks c.args.threads.now l.thread 32 c.requires fits.thread.0 (lit< tt)) cut.1 in
    let cut_index = c.in_ok-index_digits.ensures.back (decimal l.index) (places_text l.places ++ 32 ∷ (version_text l.global ++ 32 ∷ (reply_text c.args.threads.now l.reply))) (decimal_lacks l.index 32 (omega (arith, fits.index)) (lit< tt)) cut_name.1 in
    let cut_places = c.in_ok-place_digits.ensures.back (places_text l.places) (version_text l.global ++ 32 ∷ (reply_text c.args.threads.now l.reply)) (places_lack l.places fits.places) cut_index.1 in
    let cut_version = c.in_ok-version_digits.ensures.back (version_text l.global) (reply_text c.args.threads.now l.reply) (version_lacks l.global fits.global) cut_places.1 in
    let p = err_from_is_err_and c.from_residual-in_err-reply.result c.from_residual-in_err-reply.ensures.1 in
    rw (p.1, p.2) (c.in_err-reply.ensures.back l.reply fits.reply (sym cut_version.1))

pub returns-clause-back : goal.returns-clause-back
returns-clause-back c = λ l fits is.
    let whole = bytes_are c.args.threads.now l c.args.bytes.now is in
    let cut = c.in_ok-round_digits.ensures.back (decimal l.round) (get_or c.args.threads.now l.thread [] ++ 32 ∷ (decimal l.index ++ 32 ∷ (places_text l.places ++ 32 ∷ (version_text l.global ++ 32 ∷ (reply_text c.args.threads.now l.reply))))) (decimal_lacks l.round 32 (omega (arith, fits.round)) (lit< tt)) whole in
    let cut_name = c.in_ok-name.ensures.back (get_or c.args.threads.now l.thread []) (decimal l.index ++ 32 ∷ (places_text l.places ++ 32 ∷ (version_text l.global ++ 32 ∷ (reply_text c.args.threads.now l.reply)))) (name_lacks c.args.threads.now l.thread 32 c.requires fits.thread.0 (lit< tt)) cut.1 in
    let cut_index = c.in_ok-index_digits.ensures.back (decimal l.index) (places_text l.places ++ 32 ∷ (version_text l.global ++ 32 ∷ (reply_text c.args.threads.now l.reply))) (decimal_lacks l.index 32 (omega (arith, fits.index)) (lit< tt)) cut_name.1 in
    let cut_places = c.in_ok-place_digits.ensures.back (places_text l.places) (version_text l.global ++ 32 ∷ (reply_text c.args.threads.now l.reply)) (places_lack l.places fits.places) cut_index.1 in
    let cut_version = c.in_ok-version_digits.ensures.back (version_text l.global) (reply_text c.args.threads.now l.reply) (version_lacks l.global fits.global) cut_places.1 in
    let is_round = c.in_ok-round.ensures.back l.round fits.round (sym cut.0) in
    let is_thread = c.in_ok-thread.ensures.back l.thread fits.thread (sym cut_name.0) in
    let is_index = c.in_ok-index.ensures.back l.index fits.index (sym cut_index.0) in
    let is_places = c.in_ok-places.ensures.back l.places fits.places (sym cut_places.0) in
    let is_global = c.in_ok-global.ensures.back l.global fits.global (sym cut_version.0) in
    let is_reply = c.in_ok-reply.ensures.back l.reply fits.reply (sym cut_version.1) in
    (line_text_same c.args.threads.now l _ _ _ _ _ _ is_round is_thread.0 is_index is_places is_global is_reply.0, λ distinct. line_same l _ _ _ _ _ _ is_round (is_thread.1 distinct) is_index is_places is_global (is_reply.1 distinct))
