use Rattle.schema.proofs.LevelLemmas.{entry_by_item}
use Rattle.schema.proofs.validity.+valid.Goals as goal

pub is_entry-returns-then-is_key : goal.is_entry-returns-then-is_key
is_entry-returns-then-is_key t c =
    entry_by_item c.args.level c.args.types.now c.args.scalar c.args.kind c.args.key.now c.args.item.now c.is_key.result c.is_item.result c.if-level-eq0.false c.is_key.ensures c.if-is_key.true c.is_item.ensures
