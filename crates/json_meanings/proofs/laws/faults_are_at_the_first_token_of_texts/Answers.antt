use Rattle.std.proofs.Common.{◌∙◌, subst, sym, take, take-append-drop}
use Rattle.base.proofs.EachLemmas.{each_part}
use Rattle.json_events.specs.JsonText.{marks_of}
use Rattle.json_meanings.proofs.PlaceLemmas.{at_first_of_text}
use Rattle.json_meanings.proofs.TokenLemmas.{marks_then}
use Rattle.json_meanings.proofs.WordLemmas.{AreSpellable, IsSpellable, text_spellable, words_are_spellable}
use Rattle.json_meanings.proofs.laws.faults_are_at_the_first_token_of_texts.Goals as goal

pub returns : goal.returns
returns c = record {
  words = λ k id n ts f sound texts first words. at_first_of_text k sound texts id n
      c.written_texts_mean_their_values.ensures.strings ts f first
      (words_are_spellable c.texts_mean_one_value.ensures.utf8 (take f.0 ts) words);
  texts = λ k id n bytes ts f sound texts begins first. at_first_of_text k sound texts id n
      c.written_texts_mean_their_values.ensures.strings (marks_of ts) f first
      ((each_part IsSpellable (take f.0 (marks_of ts)) _
      (subst AreSpellable (sym (take-append-drop f.0 (marks_of ts)))
      (each_part IsSpellable (marks_of ts) (marks_of begins.1)
      (subst AreSpellable (sym (c.texts_have_one_tree.ensures.marks _ _ _ begins.3) ∙ marks_then ts begins.1)
      (text_spellable c.texts_mean_one_value.ensures.utf8 _ _ _ begins.3))).0)).0);
}
