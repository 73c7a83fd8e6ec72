-- One level of the definitions by level.
use Rattle.std.proofs.Common.{◌≡◌, ◌-◌, ℕ, zero, suc, arith, refl}
use Rattle.descriptor_set.specs.DescriptorFields.{message_by, message_info, no_message, no_rule, rule_by, rule_info}
use Rattle.descriptors.specs.declared.file_set.HttpInfo.{HttpInfo}
use Rattle.descriptors.specs.declared.file_set.MessageInfo.{MessageInfo}
use Rattle.schema.specs.declared.value.Value.{Value}

-- with no level left, nothing is declared
pub message_none : (k : ℕ) (v : Value) (m : MessageInfo) → k ≡ 0 → m ≡ no_message → m ≡ message_info k v
unfolding message_info
message_none zero v m h e = e
message_none (suc k) v m h e = absurd (omega arith)

-- a rule in no levels says nothing
pub rule_none : (k : ℕ) (v : Value) (m : HttpInfo) → k ≡ 0 → m ≡ no_rule → m ≡ rule_info k v
unfolding rule_info
rule_none zero v m h e = e
rule_none (suc k) v m h e = absurd (omega arith)

-- what is nested has one level fewer
pub message_opens : (k : ℕ) (v : Value) (m : MessageInfo) → (k ≡ 0 → ⊥) → m ≡ message_by (message_info (k - 1)) v → m ≡ message_info k v
unfolding message_info
message_opens zero v m h e = absurd (h refl)
message_opens (suc k) v m h e = let d : suc k - 1 ≡ k = omega arith in rw d at e

-- a rule in so many levels has those in it with one level less
pub rule_opens : (k : ℕ) (v : Value) (m : HttpInfo) → (k ≡ 0 → ⊥) → m ≡ rule_by (rule_info (k - 1)) v → m ≡ rule_info k v
unfolding rule_info
rule_opens zero v m h e = absurd (h refl)
rule_opens (suc k) v m h e = let d : suc k - 1 ≡ k = omega arith in rw d at e
