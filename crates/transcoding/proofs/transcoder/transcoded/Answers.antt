use Rattle.std.proofs.Common.{rules}
use Rattle.transcoding.proofs.transcoder.transcoded.Goals as goal

pub returns-then-len-gt-MAX_MESSAGE_BYTES : goal.returns-then-len-gt-MAX_MESSAGE_BYTES
returns-then-len-gt-MAX_MESSAGE_BYTES c method target readable = record {
  path = c.method_at-method.result.now.path;
  bytes = c.in_ok-bytes.bytes.items;
  message =
      record {
        index = c.args.route.now.binding;
        assignments = c.in_ok-overlay.overlay;
        bound =
            record {
              path = c.args.route.now.path.now;
              spans = c.args.route.now.captures;
              readable = readable;
              bound = c.in_ok-overlay.ensures.ok;
            };
        short = search rules;
        message =
            c.in_ok-bytes.ensures c.method_at-method.ensures.0 c.method_at-method.result.now c.method_at-method.ensures.1;
      };
  long = search rules;
}
