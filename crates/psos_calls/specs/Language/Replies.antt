-- What is told of a word.
use Rattle.psos_words.specs.declared.word.Word.{Word}
use Rattle.psos_words.specs.declared.word.Word.TheVariants as words
use Rattle.psos_calls.specs.declared.reply.Reply.{Reply}
use Rattle.psos_calls.specs.declared.reply.Reply.TheVariants as replies

-- the reply that tells a word
abbrev pub word_reply : Word → Reply
word_reply (words.Data n) = replies.Data n
word_reply (words.Cap cap) = replies.Cap cap
