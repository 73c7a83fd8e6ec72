-- The five pieces are the body, which is one of the code and the message.
use Rattle.std.proofs.Common.{arith}
use Rattle.std.specs.Prelude.{decimal}
use Rattle.std.specs.Str.Lossy.{utf8_lossy}
use Rattle.status_map.specs.ErrorBody.{error_body}
use Rattle.status_map.proofs.BodyLemmas.{error_body_pieces, error_body_is}
use Rattle.status_map.proofs.error_body.write_error.Goals as goal

pub returns-clause-ok : goal.returns-clause-ok
returns-clause-ok c =
    rw (
      c.in_ok-extend_from_slice-3.ensures.items,
      c.in_ok-write_lossy.ensures.ok,
      c.in_ok-extend_from_slice-2.ensures.items,
      c.in_ok-put_u64.ensures.ok,
      c.in_ok-extend_from_slice.ensures.items,
      c.from.ensures,
    )
    (error_body_pieces c.args.out.now.items (decimal c.args.code) (utf8_lossy c.args.text.now))

pub returns-clause-means : goal.returns-clause-means
returns-clause-means c =
    let laws = c.written_texts_mean_their_values.ensures in
    let code = c.args.code in
    let message = utf8_lossy c.args.text.now in
    let body = error_body_is code message (laws.numbers code (omega arith)) (laws.strings message c.in_ok-write_lossy.ensures.utf8) in (
      error_body code message,
      rw (
        c.in_ok-extend_from_slice-3.ensures.items,
        c.in_ok-write_lossy.ensures.ok,
        c.in_ok-extend_from_slice-2.ensures.items,
        c.in_ok-put_u64.ensures.ok,
        c.in_ok-extend_from_slice.ensures.items,
        c.from.ensures,
      )
          (error_body_pieces c.args.out.now.items (decimal code) message),
      body,
    )

pub returns-clause-object : goal.returns-clause-object
returns-clause-object c =
    let laws = c.written_texts_mean_their_values.ensures in
    let code = c.args.code in
    let message = utf8_lossy c.args.text.now in
    let body = error_body_is code message (laws.numbers code (omega arith)) (laws.strings message c.in_ok-write_lossy.ensures.utf8) in (
      error_body code message,
      rw (
        c.in_ok-extend_from_slice-3.ensures.items,
        c.in_ok-write_lossy.ensures.ok,
        c.in_ok-extend_from_slice-2.ensures.items,
        c.in_ok-put_u64.ensures.ok,
        c.in_ok-extend_from_slice.ensures.items,
        c.from.ensures,
      )
          (error_body_pieces c.args.out.now.items (decimal code) message),
      c.error_bodies_are_texts_of_an_object.ensures code message (error_body code message) body,
    )
