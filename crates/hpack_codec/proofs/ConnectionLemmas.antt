-- Calls of a decoder one after another answer what the blocks of a connection spell.
use Rattle.std.proofs.Common.{◌≡◌, ◌++◌, ℕ, List, [], ◌∷◌, Option, Some, None, Result, Ok, Err, refl, ap, sym, ◌∙◌}
use Rattle.std.proofs.Common.{◌↔◌, ◌<◌, suc, length, subst, append-nil, arith}
use Rattle.hpack_codec.specs.StaticTable.{HeaderField}
use Rattle.hpack_codec.specs.DynamicTable.{HeaderTable}
use Rattle.hpack_codec.specs.HeaderBlock.{HeaderBlock, header_block}
use Rattle.hpack_codec.specs.DecoderState.{DecoderState, IsDecoded, next_block}
use Rattle.hpack_codec.specs.ConnectionBlocks.{HeaderBlocks, AllRefuse, AreToldBy, DecodeCall, IsDecoderRun}
use Rattle.hpack_codec.specs.ConnectionBlocks.{IsNextAnswer, StandsForBlocks}
use Rattle.hpack_codec.specs.ConnectionBlocks.{blocks_given, blocks_step, go_on_with, header_blocks, with_list}
use Rattle.hpack_codec.specs.BlockRepresentations.{IsBadAt, PassesLimit}
use Rattle.hpack_codec.specs.declared.fault.BlockFault.{BlockFault}
use Rattle.hpack_codec.specs.declared.fault.BlockFault.TheVariants.{Bad, TooLong}
use Rattle.hpack_codec.proofs.BlockLemmas.{BlockResult}

-- a call that refuses
refused_by : (fault : BlockFault) (answer : Result (Unit {0}) BlockFault) (fields : List HeaderField)
    (new : DecoderState)
    → IsDecoded (Err fault) answer fields new → (answer ≡ Err fault) × (fields ≡ []) × (new.refused ≡ Some fault)
refused_by fault (Ok done) fields new step = absurd step
refused_by fault (Err told) fields new step = (ap (λ (f : BlockFault). Err f) step.0, step.1, step.2)

-- after a refusal each call refuses
all_refuse : (fault : BlockFault) (calls : List DecodeCall) (old new : DecoderState) → old.refused ≡ Some fault
    → IsDecoderRun old calls new → AllRefuse fault calls × (new.refused ≡ Some fault)
all_refuse fault [] old new e run = (tt, subst (λ (s : DecoderState). s.refused ≡ Some fault) run e)
all_refuse fault (c ∷ cs) old new e run =
    let step = subst (λ (o : Option BlockFault). IsDecoded (next_block o old.table c.block) c.answer c.fields run.0) e
    run.1 in
    let told = refused_by fault c.answer c.fields run.0 step in
    let rest = all_refuse fault cs run.0 new told.2 run.2 in
    ((told.0, told.1, rest.0), rest.1)

-- one call, and those behind it
module _ (t : HeaderTable) (c : DecodeCall) (cs : List DecodeCall) (next new : DecoderState)
    (run : IsDecoderRun next cs new)
    (more : (s : DecoderState) → s ≡ next → s.refused ≡ None
    → AreToldBy (header_blocks s.table (blocks_given cs)) cs new) where
  ok_by : (block : HeaderBlock) (answer : Result (Unit {0}) BlockFault) → c.answer ≡ answer
      → IsDecoded (Ok block) answer c.fields next
      → AreToldBy (with_list block.fields (header_blocks block.table (blocks_given cs))) (c ∷ cs) new
  ok_by block (Err fault) e step = absurd step
  ok_by block (Ok done) e step =
      let rest = more (record { table = block.table; refused = None }) (sym step.1) refl in
      record { answers = (e, step.0, rest.answers); refused = rest.refused; table = rest.table }

  told_by : (x : BlockResult) → IsDecoded x c.answer c.fields next
      → AreToldBy (blocks_step t x (λ after. header_blocks after (blocks_given cs))) (c ∷ cs) new
  told_by (Ok block) step = ok_by block c.answer refl step
  told_by (Err fault) step =
      let told = refused_by fault c.answer c.fields next step in
      let rest = all_refuse fault cs next new told.2 run in
      record { answers = (told.0, told.1, rest.0); refused = rest.1; table = λ e. absurd (cc) }

-- calls answer what their blocks spell
pub calls_tell : (old new : DecoderState) (calls : List DecodeCall) → old.refused ≡ None → IsDecoderRun old calls new
    → AreToldBy (header_blocks old.table (blocks_given calls)) calls new
calls_tell old new [] e run = record {
  answers = refl;
  refused = subst (λ (s : DecoderState). s.refused ≡ None) run e;
  table = λ h. ap (λ (s : DecoderState). s.table) (sym run);
}
calls_tell old new (c ∷ cs) e run =
    let step = subst (λ (o : Option BlockFault). IsDecoded (next_block o old.table c.block) c.answer c.fields run.0) e
    run.1 in
    told_by old.table c cs run.0 new run.2
    (λ s same fresh. calls_tell s new cs fresh (subst (λ (x : DecoderState). IsDecoderRun x cs new) (sym same) run.2))
    (header_block old.table c.block) step

with_more : (fields : List HeaderField) (front : HeaderBlocks) (fault : Option BlockFault) (more : List (List ℕ))
    → with_list fields (go_on_with front fault more) ≡ go_on_with (with_list fields front) fault more
with_more fields front None more = refl
with_more fields front (Some f) more = refl

go_on_by : (t : HeaderTable) (blocks more : List (List ℕ)) (x : BlockResult)
    → ((after : HeaderTable) → header_blocks after (blocks ++ more)
    ≡ go_on_with (header_blocks after blocks) (header_blocks after blocks).fault more)
    → blocks_step t x (λ after. header_blocks after (blocks ++ more))
    ≡ go_on_with (blocks_step t x (λ after. header_blocks after blocks))
    (blocks_step t x (λ after. header_blocks after blocks)).fault more
go_on_by t blocks more (Ok block) ih =
    ap (with_list block.fields) (ih block.table)
    ∙ with_more block.fields (header_blocks block.table blocks) (header_blocks block.table blocks).fault more
go_on_by t blocks more (Err fault) ih = refl

-- more blocks behind some
pub blocks_go_on : (t : HeaderTable) (front more : List (List ℕ))
    → header_blocks t (front ++ more) ≡ go_on_with (header_blocks t front) (header_blocks t front).fault more
blocks_go_on t [] more = refl
blocks_go_on t (block ∷ blocks) more =
    go_on_by t blocks more (header_block t block) (λ after. blocks_go_on after blocks more)

-- as many lists as blocks where none was refused, and fewer where one was
abbrev AreCounted : Option BlockFault → ℕ → ℕ → Type 0
AreCounted None lists blocks = lists ≡ blocks
AreCounted (Some fault) lists blocks = lists < blocks

one_counted : (fault : Option BlockFault) (m n : ℕ) → AreCounted fault m n → AreCounted fault (suc m) (suc n)
one_counted None m n h = omega (arith, h)
one_counted (Some f) m n h = omega (arith, h)

counted_by : (t : HeaderTable) (block : List ℕ) (blocks : List (List ℕ)) (x : BlockResult)
    → ((after : HeaderTable)
    → AreCounted (header_blocks after blocks).fault (length (header_blocks after blocks).lists) (length blocks))
    → AreCounted (blocks_step t x (λ after. header_blocks after blocks)).fault
    (length (blocks_step t x (λ after. header_blocks after blocks)).lists) (length (block ∷ blocks))
counted_by t block blocks (Ok r) ih =
    one_counted (header_blocks r.table blocks).fault (length (header_blocks r.table blocks).lists) (length blocks)
    (ih r.table)
counted_by t block blocks (Err f) ih = omega arith

counted : (t : HeaderTable) (blocks : List (List ℕ))
    → AreCounted (header_blocks t blocks).fault (length (header_blocks t blocks).lists) (length blocks)
counted t [] = refl
counted t (block ∷ blocks) =
    counted_by t block blocks (header_block t block) (λ after. counted after blocks)

count_tells : (fault : Option BlockFault) (m n : ℕ) → AreCounted fault m n → (fault ≡ None) ↔ (m ≡ n)
count_tells None m n h = (λ _. h, λ _. refl)
count_tells (Some f) m n h = (λ e. absurd (cc), λ e. absurd (omega (arith, h, e)))

-- each block has its list exactly where none was refused
pub all_listed : (t : HeaderTable) (blocks : List (List ℕ))
    → ((header_blocks t blocks).fault ≡ None) ↔ (length (header_blocks t blocks).lists ≡ length blocks)
all_listed t blocks =
    count_tells (header_blocks t blocks).fault (length (header_blocks t blocks).lists) (length blocks)
    (counted t blocks)

-- a decoder that was given nothing
pub none_given : (t : HeaderTable) (d : DecoderState) → d.table ≡ t → d.refused ≡ None → StandsForBlocks t d []
none_given t d e f = record { refused = f; table = λ _. e }

-- one block more, by what all blocks spell
record Next (before all : HeaderBlocks) (new : DecoderState) (answer : Result (Unit {0}) BlockFault)
    (fields : List HeaderField) : Type 0 where
  refused : new.refused ≡ all.fault
  table : new.refused ≡ None → new.table ≡ all.table
  answers : IsNextAnswer before all answer fields

module _ (before : HeaderBlocks) (new : DecoderState) (fields : List HeaderField) where
  behind_fault : (fault : BlockFault) (answer : Result (Unit {0}) BlockFault) → before.fault ≡ Some fault
      → IsDecoded (Err fault) answer fields new → Next before before new answer fields
  behind_fault fault (Ok done) e step = absurd step
  behind_fault fault (Err told) e step = record {
    refused = step.2 ∙ sym e;
    table = λ h. let no = sym step.2 ∙ h in absurd (cc);
    answers = (refl, e ∙ ap (λ (f : BlockFault). Some f) (sym step.0), step.1);
  }

  behind_none : (x : BlockResult) (answer : Result (Unit {0}) BlockFault) → IsDecoded x answer fields new
      → Next before
      (record (blocks_step before.table x (λ after. header_blocks after [])) {
        lists = before.lists ++ (blocks_step before.table x (λ after. header_blocks after [])).lists;
      }) new answer fields
  behind_none (Ok block) (Err told) step = absurd step
  behind_none (Err fault) (Ok done) step = absurd step
  behind_none (Ok block) (Ok done) step = record {
    refused = ap (λ (s : DecoderState). s.refused) step.1;
    table = λ _. ap (λ (s : DecoderState). s.table) step.1;
    answers = (ap (λ (fs : List HeaderField). before.lists ++ fs ∷ []) (sym step.0), refl);
  }
  behind_none (Err fault) (Err told) step = record {
    refused = step.2;
    table = λ h. let no = sym step.2 ∙ h in absurd (cc);
    answers = (append-nil before.lists, ap (λ (f : BlockFault). Some f) (sym step.0), step.1);
  }

next_by : (t : HeaderTable) (old new : DecoderState) (blocks : List (List ℕ)) (block : List ℕ)
    (answer : Result (Unit {0}) BlockFault) (fields : List HeaderField) (fault : Option BlockFault)
    → (header_blocks t blocks).fault ≡ fault → StandsForBlocks t old blocks
    → IsDecoded (next_block old.refused old.table block) answer fields new
    → Next (header_blocks t blocks) (go_on_with (header_blocks t blocks) fault (block ∷ [])) new answer fields
next_by t old new blocks block answer fields (Some fault) e s step =
    let found : old.refused ≡ Some fault = s.refused ∙ e in
    behind_fault (header_blocks t blocks) new fields fault answer e
    (subst (λ (o : Option BlockFault). IsDecoded (next_block o old.table block) answer fields new) found step)
next_by t old new blocks block answer fields None e s step =
    let found : old.refused ≡ None = s.refused ∙ e in
    let here = subst (λ (o : Option BlockFault). IsDecoded (next_block o old.table block) answer fields new) found
    step in
    behind_none (header_blocks t blocks) new fields (header_block (header_blocks t blocks).table block) answer
    (subst (λ (table : HeaderTable). IsDecoded (header_block table block) answer fields new) (s.table found) here)

next_of : (t : HeaderTable) (old new : DecoderState) (blocks : List (List ℕ)) (block : List ℕ)
    (answer : Result (Unit {0}) BlockFault) (fields : List HeaderField) → StandsForBlocks t old blocks
    → IsDecoded (next_block old.refused old.table block) answer fields new
    → Next (header_blocks t blocks) (header_blocks t (blocks ++ block ∷ [])) new answer fields
next_of t old new blocks block answer fields s step =
    subst (λ (all : HeaderBlocks). Next (header_blocks t blocks) all new answer fields)
    (sym (blocks_go_on t blocks (block ∷ [])))
    (next_by t old new blocks block answer fields (header_blocks t blocks).fault refl s step)

-- a decoder stands for one block more
pub next_stands : (t : HeaderTable) (old new : DecoderState) (blocks : List (List ℕ)) (block : List ℕ)
    (answer : Result (Unit {0}) BlockFault) (fields : List HeaderField) → StandsForBlocks t old blocks
    → IsDecoded (next_block old.refused old.table block) answer fields new
    → StandsForBlocks t new (blocks ++ block ∷ [])
next_stands t old new blocks block answer fields s step =
    let n = next_of t old new blocks block answer fields s step in record { refused = n.refused; table = n.table }

-- and answers what it spells
pub next_answers : (t : HeaderTable) (old new : DecoderState) (blocks : List (List ℕ)) (block : List ℕ)
    (answer : Result (Unit {0}) BlockFault) (fields : List HeaderField) → StandsForBlocks t old blocks
    → IsDecoded (next_block old.refused old.table block) answer fields new
    → IsNextAnswer (header_blocks t blocks) (header_blocks t (blocks ++ block ∷ [])) answer fields
next_answers t old new blocks block answer fields s step = (next_of t old new blocks block answer fields s step).answers

answer_is : (x : Result (Unit {0}) BlockFault) (a b : BlockFault) → x ≡ Err a → x ≡ Err b → a ≡ b
answer_is x a b e f = cc

result_is : (x : BlockResult) (a b : BlockFault) → x ≡ Err a → x ≡ Err b → a ≡ b
result_is x a b e f = cc

-- an answer is a fault exactly where the block has it
tells : (x : BlockResult) (answer : Result (Unit {0}) BlockFault) (fields : List HeaderField) (new : DecoderState)
    (fault : BlockFault) → IsDecoded x answer fields new → (answer ≡ Err fault) ↔ (x ≡ Err fault)
tells (Ok block) (Ok done) fields new fault step = (λ e. absurd (cc), λ e. absurd (cc))
tells (Ok block) (Err told) fields new fault step = absurd step
tells (Err f) (Ok done) fields new fault step = absurd step
tells (Err f) (Err told) fields new fault step = (
  λ e. ap (λ (x : BlockFault). Err x) (sym step.0 ∙ answer_is (Err told) told fault refl e),
  λ e. ap (λ (x : BlockFault). Err x) (step.0 ∙ result_is (Err f) f fault refl e),
)

-- where nothing was refused, an answer is a fault exactly where the next block has it
tells_next : (refused : Option BlockFault) (table : HeaderTable) (block : List ℕ)
    (answer : Result (Unit {0}) BlockFault)
    (fields : List HeaderField) (new : DecoderState) → refused ≡ None
    → IsDecoded (next_block refused table block) answer fields new
    → (fault : BlockFault) → (answer ≡ Err fault) ↔ (header_block table block ≡ Err fault)
tells_next refused table block answer fields new fresh step fault =
    tells (header_block table block) answer fields new fault
    (subst (λ (o : Option BlockFault). IsDecoded (next_block o table block) answer fields new) fresh step)

-- a call tells that a block is bad exactly where it is
pub tells_bad : (refused : Option BlockFault) (table : HeaderTable) (block : List ℕ)
    (answer : Result (Unit {0}) BlockFault)
    (fields : List HeaderField) (new : DecoderState) → refused ≡ None
    → IsDecoded (next_block refused table block) answer fields new
    → (offset : ℕ) → (header_block table block ≡ Err (Bad offset)) ↔ IsBadAt 65536 table block offset
    → (answer ≡ Err (Bad offset)) ↔ IsBadAt 65536 table block offset
tells_bad refused table block answer fields new fresh step offset law =
    let told = tells_next refused table block answer fields new fresh step (Bad offset) in
    (λ e. law.0 (told.0 e), λ b. told.1 (law.1 b))

-- and that it is too long exactly where it is
pub tells_long : (refused : Option BlockFault) (table : HeaderTable) (block : List ℕ)
    (answer : Result (Unit {0}) BlockFault)
    (fields : List HeaderField) (new : DecoderState) → refused ≡ None
    → IsDecoded (next_block refused table block) answer fields new
    → (header_block table block ≡ Err TooLong) ↔ PassesLimit 65536 table block
    → (answer ≡ Err TooLong) ↔ PassesLimit 65536 table block
tells_long refused table block answer fields new fresh step law =
    let told = tells_next refused table block answer fields new fresh step TooLong in
    (λ e. law.0 (told.0 e), λ p. told.1 (law.1 p))
