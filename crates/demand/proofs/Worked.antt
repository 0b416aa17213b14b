-- Book A's programme and its run with 40, as docs/PROGRAMME.md has them, by computation from the bytes of its lines. Assumes nothing.
use Prim.Native.Nat.{ℕ}
use mathlib.Core.Path.{◌≡◌, refl}
use mathlib.Core.Bool.{true}
use mathlib.Core.List.{List, [], ◌∷◌}
use lib.ListN.{get_or}
use Rattle.record.specs.Bytes.{big_of, span_of}
use Rattle.record.specs.Forest.{span_in, grow_f, forest}
use Rattle.record.proofs.BookA.{bytes, lines, book_a, is40}
use Rattle.value.specs.Value.{function_of, value_of, signed64, finite_of}
use Rattle.meaning.specs.Numbers.{key_by}
use Rattle.meaning.specs.Meaning.{comparison_of, gives}
use Rattle.meaning.specs.Reading.{key_at, test_at, match_at, comparison_at, row_of, children_at, conjunction_at, section_at, target_in, condition_at, conditions_in, when_in, rule_at, rules_in, obligations_in, tree_at, trees_in, book_of, bag_from, bags_of}
use Rattle.meaning.specs.declared.Verdict.TheVariants.{Deny}
use Rattle.layout.specs.Entry.{lawful}
use Rattle.moves.specs.Core.{core}
use Rattle.stacks.specs.Machine.{copies}
use Rattle.layout.specs.Layout.{words_of, test_word, fetch, entry_of, entry_by, compare_by, test_of, found_by, found_code, unpack_of, pack_of, frame_of, frame_word}
use Rattle.programme.specs.Step.{may_step, step_of, is_over, after, head_after, seen, fresh_of}
use Rattle.run.specs.Run.{run_of}
use Rattle.code.specs.Code.{code_conjunction, code_section, code_target, code_condition, code_conditions, code_when, code_rule, code_rules, code_obligations, code_body, code_within, code_shell, code_tree, code_trees, owns, obligations, obligations_all, code_top, programme, translated, in_numbers}
use Rattle.translator.specs.Translate.{programme_of}

page : List ℕ
page =
    0x90
    ∷ 0x85
    ∷ 0x40100072D
    ∷ 0x32
    ∷ 0
    ∷ 0x15
    ∷ 0x28
    ∷ 0x229
    ∷ 0x259
    ∷ 0xB
    ∷ []

written : programme_of (lines book_a) ≡ page
unfolding bytes lines book_a page
    programme_of in_numbers translated programme code_top obligations obligations_all owns code_tree code_trees code_shell code_within code_body code_obligations code_rules code_rule code_when code_condition code_conditions code_target code_section code_conjunction words_of test_word
    book_of trees_in tree_at obligations_in rules_in rule_at when_in conditions_in condition_at target_in section_at conjunction_at children_at row_of comparison_at match_at test_at key_at forest grow_f span_in span_of big_of function_of
written = refl

-- eight steps of twenty, and then Deny with obligation 18
ran : ((run_of page (bags_of (lines (is40 ∷ []))) 20 fresh_of).ok ≡ true) × ((run_of page (bags_of (lines (is40 ∷ []))) 20 fresh_of).steps ≡ 8)
    × (is_over (run_of page (bags_of (lines (is40 ∷ []))) 20 fresh_of).state ≡ true)
    × ((unpack_of (run_of page (bags_of (lines (is40 ∷ []))) 20 fresh_of).state.head).found.reg ≡ Deny)
    × ((unpack_of (run_of page (bags_of (lines (is40 ∷ []))) 20 fresh_of).state.head).denies ≡ 1)
    × (get_or (run_of page (bags_of (lines (is40 ∷ []))) 20 fresh_of).state.places 0 7 ≡ 18)
unfolding bytes lines is40 page
    run_of is_over may_step step_of after head_after seen core lawful copies fetch entry_of entry_by compare_by test_of found_by found_code unpack_of pack_of frame_of frame_word fresh_of
    bags_of bag_from big_of comparison_of gives key_by function_of value_of signed64 finite_of
ran = (refl, refl, refl, refl, refl, refl)
