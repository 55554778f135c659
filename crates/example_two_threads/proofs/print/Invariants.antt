use Rattle.example_two_threads.proofs.print.Given as goal

abbrev pub ghosts-in_two_threads : goal.ghosts-in_two_threads
ghosts-in_two_threads g a = record { names = a.counters }
