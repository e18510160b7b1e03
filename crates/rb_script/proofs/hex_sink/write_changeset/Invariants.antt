use Rattle.rb_script.proofs.hex_sink.write_changeset.Given as goal

-- the loan of this writer, with what it holds now
abbrev pub ghosts-put_pieces : goal.ghosts-put_pieces
ghosts-put_pieces g a =
    record { name = a.to.writer.ghost_name; before = g.W.Write.contents a.to.writer.now }
