use Rattle.rows.proofs.Filling.{word_zero, word_read, word_data, word_write, word_enable, word_last}
use Rattle.rows.proofs.row_word.Goals as goal

pub returns-in-0 : goal.returns-in-0
returns-in-0 c = search word_zero

pub returns-in-1-to-13 : goal.returns-in-1-to-13
returns-in-1-to-13 c = search word_read

pub returns-in-14-to-45 : goal.returns-in-14-to-45
returns-in-14-to-45 c = search word_data

pub returns-in-46-to-58 : goal.returns-in-46-to-58
returns-in-46-to-58 c = search word_write

pub returns-in-59-to-90 : goal.returns-in-59-to-90
returns-in-59-to-90 c = search word_enable

pub returns-in_default : goal.returns-in_default
returns-in_default c = search word_last
