-- Every definition of the rules that computes, under one name: to unfold `every_rule` is to unfold all that its line
-- names. Assumes nothing.
use Rattle.rules.specs.Lists.{from, sum, largest, zeros, tally, every, seek, sum_words, filter, has, occurrences, position}
use Rattle.rules.specs.Lists.{insert, insert_all, once}
use Rattle.rules.specs.Words.{game_length, work_length}
use Rattle.rules.specs.Answers.{fault_if, and_then, first_fault}
use Rattle.rules.specs.Labels.{times, same_label, multiset}
use Rattle.rules.specs.System.{first_transition, transitions}
use Rattle.rules.specs.Table.{decode_regular, regular_node, regular_shape}
use Rattle.rules.specs.Table.{decode_action, action_node, action_shape, decode_formula, formula_node, formula_shape}
use Rattle.rules.specs.Table.{fixpoint_of, reference_of}
use Rattle.rules.specs.Table.{end_of_trees, tree_end, is_end, is_not_end, is_before_end, comes_to, on_row}
use Rattle.rules.specs.Actions.{action_of, action_to, action_tree, matches}
use Rattle.rules.specs.Formula.{equation_at, is_fixpoint, placeholder, equations_before, equations, equation_count}
use Rattle.rules.specs.Formula.{equation_of, equation_number, formula_of, formula_to, formula_tree, body_tree}
use Rattle.rules.specs.Formula.{first_body_node, body_nodes}
use Rattle.rules.specs.Depth.{references, alternates, contribution, reading_to, reading, depth, least_bit, by_depth}
use Rattle.rules.specs.Items.{same_tree, action_view, formula_view, alike, subformulas, items, item_number}
use Rattle.rules.specs.Pairs.{same_pair, item_at, operator_owner, formula_owner, item_owner, owner, priority}
use Rattle.rules.specs.Pairs.{matching_transitions, successors, formula_targets, item_targets, targets}
use Rattle.rules.specs.Pairs.{formula_transitions, item_transitions, modal_transitions, transitions_behind}
use Rattle.rules.specs.Walk.{push_new, settle, step_from, step, steps_from, walk}
use Rattle.rules.specs.Reach.{all_targets, reached_in, reachable_pairs, N}
use Rattle.rules.specs.Game.{edge_count, offsets, all_edges, columns, game_of, padded, pairs_in, edge_at, edges_at}
use Rattle.rules.specs.Vertices.{stuck_priority, totalised_by, totalised, ruled_edge, ruled_vertex, settled_vertex}
use Rattle.rules.specs.Vertices.{waiting_vertex, vertex_at, vertices_of}
use Rattle.rules.specs.Refusal.{outside, differ, fault_from, lower_fault, refusal1, refusal2, refusal11, refusal12}
use Rattle.rules.specs.Refusal.{bad_label, refusal13, refusal21, refusal22, refusal23, refusal24, too_large}
use Rattle.rules.specs.Refusal.{refusal25, refusal26, refusal31, refusal32, refusal33, wrong_operand}
use Rattle.rules.specs.Refusal.{bad_action_operand, refusal34, refusal41, refusal42, refusal43, names_no_root}
use Rattle.rules.specs.Refusal.{bad_formula_operand, wrong_end, refusal44, encloses}
use Rattle.rules.specs.Refusal.{wrong_reference, refusal45, input_refusal, refusal}
use Rattle.rules.specs.GameRefusal.{above_room, refusal51, falls, refusal52, refusal53, game_refusal}
use Rattle.rules.specs.Restrict.{search_from, reached_vertices, new_number, kept_edge, kept_vertex, kept_vertices, vertex_map}
use Rattle.rules.specs.Restrict.{restriction_refusal, restricted_to, restricted_or, restriction}
use Rattle.rules.specs.Texts.{digits_to, decimal, spaced, line, text_into}
use Rattle.rules.specs.Program.{word_of, joined, words_of, gate_words, disagree, slices_of, gate_room, gate_steps}
use Rattle.rules.specs.Program.{gate_run, done_text, cut_text, refused_text, vertex_line, vertex_lines, report}
use Rattle.rules.specs.Program.{reported, printed_words, printed, gate_text_length, program_text}
use Rattle.rules.specs.TextReading.{then_read, with_first, read_byte, read_bytes, is_digit, digits_at, past_digits}
use Rattle.rules.specs.TextReading.{value_on, no_numeral, read_number, read_field}
use Rattle.rules.specs.Pgsolver.{parity_word, header_text, comma_text, list_text, name_text, line_text, lines_text}
use Rattle.rules.specs.Pgsolver.{spelled}
use Rattle.rules.specs.PgsolverParse.{read_commas, read_list, read_name, read_named, read_owner, read_line, with_line}
use Rattle.rules.specs.PgsolverParse.{read_lines, read_header, parse}
use Rattle.rules.specs.PgsolverWriting.{line_in, text_in, game_text, has_successor, refusal98, writing_refusal}
use Rattle.rules.specs.PgsolverWriting.{written_or, written_game}
use Rattle.rules.specs.PgsolverReading.{text_vertex, vertex_of, vertex_named, read_vertices, all, different, within_highest}
use Rattle.rules.specs.PgsolverReading.{refusal92, refusal93, text_refusal, reading_refusal, read_as, vertices_in}
use Rattle.rules.specs.PgsolverReading.{read_or, read_game}
use Rattle.rules.specs.Run.{walk_of, exceeds, built_answer, built_outcome, out_of_room, walk_outcome, refused_or, run}

unfoldable pub every_rule : Unit {0}
unfolding from sum largest zeros tally every seek sum_words filter has occurrences position insert insert_all once
    game_length work_length fault_if and_then first_fault
    times same_label multiset first_transition transitions decode_action action_node action_shape decode_regular regular_node regular_shape decode_formula formula_node
    formula_shape fixpoint_of reference_of end_of_trees tree_end is_end is_not_end is_before_end comes_to on_row action_of action_to action_tree matches
    equation_at is_fixpoint placeholder equations_before equations equation_count equation_of equation_number formula_of
    formula_to formula_tree body_tree first_body_node body_nodes references alternates contribution reading_to reading depth
    least_bit by_depth same_tree action_view formula_view alike subformulas items item_number same_pair item_at operator_owner
    formula_owner item_owner owner priority matching_transitions successors formula_targets item_targets targets
    formula_transitions item_transitions modal_transitions transitions_behind push_new settle
    step_from step steps_from walk all_targets reached_in reachable_pairs N waiting_vertex stuck_priority totalised_by
    totalised settled_vertex ruled_edge ruled_vertex vertex_at vertices_of edge_count offsets all_edges columns game_of padded pairs_in edge_at edges_at outside differ fault_from lower_fault refusal1
    refusal2 refusal11 refusal12 bad_label refusal13 refusal21 refusal22 refusal23 refusal24 too_large refusal25
    refusal26 refusal31 refusal32 refusal33 wrong_operand bad_action_operand refusal34 refusal41 refusal42
    refusal43 names_no_root bad_formula_operand wrong_end refusal44 encloses wrong_reference refusal45
    input_refusal refusal walk_of exceeds built_answer built_outcome out_of_room walk_outcome refused_or run above_room
    refusal51 falls refusal52 refusal53 game_refusal search_from reached_vertices new_number kept_edge kept_vertex kept_vertices
    vertex_map restriction_refusal restricted_to restricted_or restriction digits_to decimal spaced
    line text_into word_of joined words_of gate_words disagree slices_of gate_room gate_steps gate_run done_text cut_text
    refused_text vertex_line vertex_lines report reported printed_words printed gate_text_length program_text
every_rule = tt

-- the definitions of PGSolver text, for which the line above is unfolded too
unfoldable pub every_solver_rule : Unit {0}
unfolding then_read with_first read_byte read_bytes is_digit digits_at past_digits value_on no_numeral read_number read_field
    parity_word header_text comma_text list_text name_text line_text lines_text spelled read_commas read_list read_name read_named
    read_owner read_line with_line read_lines read_header parse line_in text_in game_text has_successor refusal98 writing_refusal
    written_or written_game text_vertex vertex_of vertex_named read_vertices all different within_highest refusal92 refusal93 text_refusal
    reading_refusal read_as vertices_in read_or read_game
every_solver_rule = tt
