-- The header blocks of one direction of a connection: they come in order, and all go through one table (RFC 7541,
-- sections 2.2 and 2.3.2).
use Rattle.std.specs.Prelude.{◌≡◌, ℕ, List, [], ◌∷◌, ◌++◌, map, Option, Some, None, Result, Ok, Err}
use Rattle.hpack_codec.specs.StaticTable.{HeaderField}
use Rattle.hpack_codec.specs.DynamicTable.{HeaderTable}
use Rattle.hpack_codec.specs.HeaderBlock.{HeaderBlock, header_block}
use Rattle.hpack_codec.specs.DecoderState.{DecoderState, IsDecoded, next_block}
use Rattle.hpack_codec.specs.declared.fault.BlockFault.{BlockFault}

-- the fields of each block up to the first that is refused, the table behind them, and why the next one is refused
pub record HeaderBlocks : Type 0 where
  pub lists : List (List HeaderField)
  pub table : HeaderTable
  pub fault : Option BlockFault

-- a list of fields before those that follow
abbrev pub with_list : List HeaderField → HeaderBlocks → HeaderBlocks
with_list fields all = record all { lists = fields ∷ all.lists }

-- a block, and what follows from the table that it leaves
abbrev pub blocks_step : HeaderTable → Result HeaderBlock BlockFault → (HeaderTable → HeaderBlocks) → HeaderBlocks
blocks_step t (Ok block) go = with_list block.fields (go block.table)
blocks_step t (Err fault) go = record { lists = []; table = t; fault = Some fault }

-- what blocks spell one after another, from a table on
abbrev pub header_blocks : HeaderTable → List (List ℕ) → HeaderBlocks
header_blocks t [] = record { lists = []; table = t; fault = None }
header_blocks t (block ∷ blocks) = blocks_step t (header_block t block) (λ after. header_blocks after blocks)

-- more blocks behind some: they go on from the table that these leave, unless one was refused
abbrev pub go_on_with : HeaderBlocks → Option BlockFault → List (List ℕ) → HeaderBlocks
go_on_with front None blocks =
    record (header_blocks front.table blocks) { lists = front.lists ++ (header_blocks front.table blocks).lists }
go_on_with front (Some fault) blocks = front

-- one call of a decoder: the block that it was given, its answer, and the fields that it left
pub record DecodeCall : Type 0 where
  pub block : List ℕ
  pub answer : Result (Unit {0}) BlockFault
  pub fields : List HeaderField

-- the blocks that calls were given
abbrev pub blocks_given : List DecodeCall → List (List ℕ)
blocks_given calls = map (λ (c : DecodeCall). c.block) calls

-- calls of `decode` one after another lead a decoder from one state to another
abbrev pub IsDecoderRun : DecoderState → List DecodeCall → DecoderState → Type 0
IsDecoderRun old [] new = old ≡ new
IsDecoderRun old (c ∷ cs) new =
    (next : DecoderState) × IsDecoded (next_block old.refused old.table c.block) c.answer c.fields next
    × IsDecoderRun next cs new

-- each call refuses with this fault and leaves no fields
abbrev pub AllRefuse : BlockFault → List DecodeCall → Type 0
AllRefuse fault [] = Unit {0}
AllRefuse fault (c ∷ cs) = (c.answer ≡ Err fault) × (c.fields ≡ []) × AllRefuse fault cs

-- the answers to calls: the fields of each block that is spelled, and behind them the fault, if there is one
abbrev pub AreAnswers : List (List HeaderField) → Option BlockFault → List DecodeCall → Type 0
AreAnswers [] None calls = calls ≡ []
AreAnswers [] (Some fault) calls = AllRefuse fault calls
AreAnswers (list ∷ lists) fault [] = ⊥
AreAnswers (list ∷ lists) fault (c ∷ cs) = (c.answer ≡ Ok tt) × (c.fields ≡ list) × AreAnswers lists fault cs

-- what calls were answered, and the decoder behind them, are what blocks spell one after another
pub record AreToldBy (all : HeaderBlocks) (calls : List DecodeCall) (new : DecoderState) : Type 0 where
  pub answers : AreAnswers all.lists all.fault calls
  pub refused : new.refused ≡ all.fault
  pub table : all.fault ≡ None → new.table ≡ all.table

-- a decoder that began with this table, refused nothing then, and was given these blocks since
pub record StandsForBlocks (t : HeaderTable) (d : DecoderState) (blocks : List (List ℕ)) : Type 0 where
  pub refused : d.refused ≡ (header_blocks t blocks).fault
  pub table : d.refused ≡ None → d.table ≡ (header_blocks t blocks).table

-- the answer to one block more: its fields are one list more, or there is none and the fault is told
abbrev pub IsNextAnswer : HeaderBlocks → HeaderBlocks → Result (Unit {0}) BlockFault → List HeaderField → Type 0
IsNextAnswer old new (Ok done) fields = (new.lists ≡ old.lists ++ fields ∷ []) × (new.fault ≡ None)
IsNextAnswer old new (Err fault) fields = (new.lists ≡ old.lists) × (new.fault ≡ Some fault) × (fields ≡ [])
