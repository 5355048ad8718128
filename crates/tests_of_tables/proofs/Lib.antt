mod Partitions
