use Rattle.std.proofs.Common.{rules}
use Rattle.script_commands.specs.Commands.{handle_read_command, info_words, class_words, upper_words, lower_words, money_words, time_words, number_words, parse_words}
use Rattle.script_commands.proofs.commands.handle_read_command.Goals as goal

pub returns-then-eq-clause-is : goal.returns-then-eq-clause-is
unfolding handle_read_command
returns-then-eq-clause-is c =
    let h = c.read_of_command.ensures.is info_words (λ s read p. p.1) in
    search (rules, h)

pub returns-then-eq-2-clause-is : goal.returns-then-eq-2-clause-is
unfolding handle_read_command
returns-then-eq-2-clause-is c =
    let h = c.read_of_command-then-eq-2.ensures.is class_words (λ s read p. search rules) in
    search (rules, h)

pub returns-then-eq-3-clause-is : goal.returns-then-eq-3-clause-is
unfolding handle_read_command
returns-then-eq-3-clause-is c =
    let h = c.read_of_command-then-eq-3.ensures.is upper_words (λ s read p. p.1) in
    search (rules, h)

pub returns-then-eq-4-clause-is : goal.returns-then-eq-4-clause-is
unfolding handle_read_command
returns-then-eq-4-clause-is c =
    let h = c.read_of_command-then-eq-4.ensures.is lower_words (λ s read p. p.1) in
    search (rules, h)

pub returns-then-eq-5-clause-is : goal.returns-then-eq-5-clause-is
unfolding handle_read_command
returns-then-eq-5-clause-is c =
    let h = c.read_of_command-then-eq-5.ensures.is money_words (λ s read p. search rules) in
    search (rules, h)

pub returns-then-eq-6-clause-is : goal.returns-then-eq-6-clause-is
unfolding handle_read_command
returns-then-eq-6-clause-is c =
    let h = c.read_of_command-then-eq-6.ensures.is time_words (λ s read p. search rules) in
    search (rules, h)

pub returns-then-eq-7-clause-is : goal.returns-then-eq-7-clause-is
unfolding handle_read_command
returns-then-eq-7-clause-is c =
    let h = c.read_of_command-then-eq-7.ensures.is number_words (λ s read p. search rules) in
    search (rules, h)

pub returns-then-eq-8-clause-is : goal.returns-then-eq-8-clause-is
unfolding handle_read_command
returns-then-eq-8-clause-is c =
    let h = c.read_of_command-then-eq-8.ensures.is parse_words (λ s read p. search rules) in
    search (rules, h)
