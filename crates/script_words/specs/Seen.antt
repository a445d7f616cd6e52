-- What the reader's values stand for.
use Rattle.script_words.specs.declared.lines.Line as own
use Rattle.script_spec.specs.ScriptWords.{Line}
use Rattle.script_words.specs.Given.{word_of}

abbrev pub line_seen : own.Line → Line
line_seen l = record { number = l.number; first = word_of l.first; rest = l.rest }
